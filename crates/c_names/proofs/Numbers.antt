-- The number of a name's declaration tells in which scope it stands.
use Rattle.std.proofs.Common.{arith, ◌≡◌, ◌≤◌, ◌+◌, length, drop, nat_le, zero, suc, ℕ, Bool, true, false, if◌then◌else◌, Option, Some, None, List, [], ◌∷◌, ◌++◌, map, refl, sym, ap, ◌∙◌, subst}
use Rattle.std.proofs.lemmas.Slice.Eq.{bytes_eq-Decides}
use Rattle.std.specs.Str.{bytes_eq}
use Rattle.std.proofs.lemmas.Bool.Decides.{nat_tests}
use Rattle.c_typing.specs.declared.names.Meaning.{Meaning}
use Rattle.c_typing.specs.Scopes as scopes
use Rattle.c_names.specs.declared.entry.Known.{Known}
use Rattle.c_names.specs.declared.entry.Kept.{Kept}
use Rattle.c_names.specs.Known.{known_in, or_else, due_behind, due_of, entries_of, means_of, is_behind, is_declared}

join : (o : Option Known) (k : Known) (b : Bool) → means_of (or_else o (if b then Some k else None)) ≡ scopes.or_else (means_of o) (if b then Some k.means else None)
join (Some x) k b = refl
join None k true = refl
join None k false = refl

pub meaning_is : (es : List Kept) (name : List ℕ) → means_of (known_in es name) ≡ scopes.meaning (entries_of es) name
meaning_is [] name = refl
meaning_is (e ∷ es) name = join (known_in es name) e.known (bytes_eq e.name.now name) ∙ ap (λ o. scopes.or_else o (if bytes_eq e.name.now name then Some e.known.means else None)) (meaning_is es name)

abbrev Due : Type 0
Due = Option Known × ℕ

head_of : (x y : Due) (xs ys : List Due) → x ∷ xs ≡ y ∷ ys → x ≡ y
head_of x y xs ys e = cc

tail_of : (x y : Due) (xs ys : List Due) → x ∷ xs ≡ y ∷ ys → xs ≡ ys
tail_of x y xs ys e = cc

length_snoc : (es : List Kept) (e : Kept) → length (es ++ e ∷ []) ≡ suc (length es)
length_snoc [] e = refl
length_snoc (x ∷ es) e = ap suc (length_snoc es e)

abbrev declared : Option Known → Bool
declared None = false
declared (Some k) = true

-- numbers from k on
abbrev numbered : ℕ → List Kept → List ℕ
numbered k [] = []
numbered k (e ∷ es) = k ∷ numbered (suc k) es

record Numbered (k : ℕ) (es : List Kept) : Type 0 where
  is : map (λ (e : Kept). e.known.number) es ≡ numbered k es

hd : (x y : ℕ) (xs ys : List ℕ) → x ∷ xs ≡ y ∷ ys → x ≡ y
hd x y xs ys e = cc

tl : (x y : ℕ) (xs ys : List ℕ) → x ∷ xs ≡ y ∷ ys → xs ≡ ys
tl x y xs ys e = cc

numbers_are : (before es : List Kept) → map due_of es ≡ due_behind before es → Numbered (length before) es
numbers_are before [] e = record { is = refl }
numbers_are before (x ∷ es) e =
    let rest = numbers_are (before ++ x ∷ []) es (tail_of _ _ _ _ e) in
    let moved : Numbered (suc (length before)) es = subst (λ k. Numbered k es) (length_snoc before x) rest in
    record { is = ap (λ n. n ∷ map (λ (e : Kept). e.known.number) es) (ap (λ (d : Due). d.1) (head_of _ _ _ _ e)) ∙ ap (λ ns. length before ∷ ns) moved.is }

le_true : (a b : ℕ) → a ≤ b → nat_le a b ≡ true
le_true a b h = grind (arith, nat_tests, h)

le_false : (a b : ℕ) → suc b ≤ a → nat_le a b ≡ false
le_false a b h = grind (arith, nat_tests, h)

-- each number is at least the first
record AtLeast (k : ℕ) (o : Option Known) : Type 0 where
  is : is_behind k o ≡ declared o

weaker : (k : ℕ) (x : Known) → nat_le (suc k) x.number ≡ true → nat_le k x.number ≡ true
weaker k x h = grind (arith, nat_tests, h)

next : (k : ℕ) (o : Option Known) (e : Known) (b : Bool) → e.number ≡ k → AtLeast (suc k) o → AtLeast k (or_else o (if b then Some e else None))
next k (Some x) e b n a = record { is = weaker k x a.is }
next k None e false n a = record { is = refl }
next k None e true n a = record { is = subst (λ m. nat_le k m ≡ true) (sym n) (le_true k k (omega arith)) }

at_least : (k : ℕ) (es : List Kept) (name : List ℕ) → Numbered k es → AtLeast k (known_in es name)
at_least k [] name n = record { is = refl }
at_least k (e ∷ es) name n = next k (known_in es name) e.known (bytes_eq e.name.now name) (hd _ _ _ _ n.is) (at_least (suc k) es name (record { is = tl _ _ _ _ n.is }))

over : (k s : ℕ) (o : Option Known) (e : Known) (b : Bool) → e.number ≡ k → is_behind (suc k + s) o ≡ is_behind (k + suc s) (or_else o (if b then Some e else None))
over k s (Some x) e b n = ap (λ m. nat_le m x.number) (omega arith)
over k s None e false n = refl
over k s None e true n = sym (subst (λ m. nat_le (k + suc s) m ≡ false) (sym n) (le_false (k + suc s) k (omega arith)))

behind : (k s : ℕ) (es : List Kept) (name : List ℕ) → Numbered k es → declared (known_in (drop s es) name) ≡ is_behind (k + s) (known_in es name)
behind k zero es name n = sym (at_least k es name n).is ∙ ap (λ m. is_behind m (known_in es name)) (omega arith)
behind k (suc s) [] name n = refl
behind k (suc s) (e ∷ es) name n = behind (suc k) s es name (record { is = tl _ _ _ _ n.is }) ∙ over k s (known_in es name) e.known (bytes_eq e.name.now name) (hd _ _ _ _ n.is)

drop_entries : (s : ℕ) (es : List Kept) → drop s (entries_of es) ≡ entries_of (drop s es)
drop_entries zero es = refl
drop_entries (suc s) [] = refl
drop_entries (suc s) (e ∷ es) = drop_entries s es

same_declared : (o : Option Known) → declared o ≡ is_declared (means_of o)
same_declared None = refl
same_declared (Some k) = refl

zero_plus : (s : ℕ) → s ≡ 0 + s
zero_plus s = omega arith

pub is_here : (s : ℕ) (es : List Kept) (name : List ℕ) → map due_of es ≡ due_behind [] es → is_behind s (known_in es name) ≡ is_declared (scopes.meaning (drop s (entries_of es)) name)
is_here s es name d =
    ap (λ m. is_behind m (known_in es name)) (zero_plus s) ∙ sym (behind 0 s es name (numbers_are [] es d)) ∙ same_declared (known_in (drop s es) name)
    ∙ ap is_declared (meaning_is (drop s es) name) ∙ ap (λ xs. is_declared (scopes.meaning xs name)) (sym (drop_entries s es))
