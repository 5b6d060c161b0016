-- Reading a list of names, one by one.
use Rattle.std.proofs.Common.{◌≡◌, ℕ, ◌+◌, ◌-◌, ◌<◌, true, not, eqb, Some, None, List, [], ◌∷◌, ◌++◌, length, map, take, drop, refl, sym, ap, subst, ◌∙◌, arith, rules, length-append, Bor}
use Rattle.std.proofs.lemmas.Bool.{and_parts}
use Rattle.std.proofs.lemmas.Grind.{flat_map-append}
use Rattle.std.proofs.lemmas.List.{append_assoc, append-nil, map-append, length-map, take-append-drop, append_cancel_left, drop_all}
use Rattle.std.specs.List.{flat_map, position}
use Rattle.asm_token.specs.Tokens.{IsName}
use Rattle.md_text.specs.Lines.{lacks}
use Rattle.md_text.specs.Forms.{EachName}
use Rattle.md_text.proofs.Bytes.{name_lacks}
use Rattle.md_lines.specs.Fields.{AreSpacedNames, StopsAtSpace, IsUptoSpace, BeginsWithName}
use Rattle.md_lines.proofs.Places.{split_at_place, lacks_unplaced, tail_is}

abbrev pub spaced : List (List ℕ) → List ℕ
spaced names = flat_map (λ name. 32 ∷ name) names

-- what stands before the first space is one thing

other_byte : (b c : ℕ) → not (eqb c b) ≡ true → c ≡ b → ⊥
other_byte b c h e = grind (arith, rules)

head_of : (b c : ℕ) (bs cs : List ℕ) → b ∷ bs ≡ c ∷ cs → b ≡ c
head_of b c bs cs e = cc

tail_of : (b c : ℕ) (bs cs : List ℕ) → b ∷ bs ≡ c ∷ cs → bs ≡ cs
tail_of b c bs cs e = cc

pub upto_once : (f g k m : List ℕ) → lacks 32 f ≡ true → lacks 32 g ≡ true → StopsAtSpace k → StopsAtSpace m → f ++ k ≡ g ++ m → (f ≡ g) × (k ≡ m)
upto_once [] [] k m p q s t e = (refl, e)
upto_once [] (c ∷ g) [] m p q s t e = let no : [] ≡ c ∷ (g ++ m) → ⊥ = λ r. cc in absurd (no e)
upto_once [] (c ∷ g) (b ∷ k) m p q s t e = absurd (other_byte 32 c (and_parts (not (eqb c 32)) (lacks 32 g) q).0 (sym (head_of b c k (g ++ m) e) ∙ s))
upto_once (c ∷ f) [] k [] p q s t e = let no : c ∷ (f ++ k) ≡ [] → ⊥ = λ r. cc in absurd (no e)
upto_once (c ∷ f) [] k (b ∷ m) p q s t e = absurd (other_byte 32 c (and_parts (not (eqb c 32)) (lacks 32 f) p).0 (head_of c b (f ++ k) m e ∙ t))
upto_once (c ∷ f) (d ∷ g) k m p q s t e =
    let rest = upto_once f g k m (and_parts (not (eqb c 32)) (lacks 32 f) p).1 (and_parts (not (eqb d 32)) (lacks 32 g) q).1 s t (tail_of c d (f ++ k) (g ++ m) e) in
    (both c d f g (head_of c d (f ++ k) (g ++ m) e) rest.0, rest.1)
  where
    both : (c d : ℕ) (f g : List ℕ) → c ≡ d → f ≡ g → c ∷ f ≡ d ∷ g
    both c d f g p q = cc

-- the first name

pub no_space : (text : List ℕ) → ((rest : List ℕ) → text ≡ 32 ∷ rest → ⊥) → (name back : List ℕ) → BeginsWithName text name back → ⊥
no_space text none name back b = none (name ++ back) b.text

pub no_name : (text rest name back : List ℕ) → text ≡ 32 ∷ rest → IsUptoSpace rest name back → (IsName name → ⊥) → (other behind : List ℕ) → BeginsWithName text other behind → ⊥
no_name text rest name back e s none other behind b =
    let same = upto_once name other back behind s.first (name_lacks 32 other refl b.named) s.stops b.stops (sym s.text ∙ tail_of 32 32 rest (other ++ behind) (sym e ∙ b.text)) in
    none (subst IsName (sym same.0) b.named)

-- several

spaced_stops : (names : List (List ℕ)) → StopsAtSpace (spaced names)
spaced_stops [] = tt
spaced_stops (name ∷ names) = refl

first_of_spaced : (name : List ℕ) (names : List (List ℕ)) (rest : List ℕ) → IsName name → rest ≡ spaced (name ∷ names) → BeginsWithName rest name (spaced names)
first_of_spaced name names rest h e = record { text = e; named = h; stops = spaced_stops names }

-- the names are these and then those of the rest
pub record Behind (rest : List ℕ) (names others : List (List ℕ)) : Type 0 where
  pub more : List (List ℕ)
  pub is : others ≡ names ++ more
  pub text : rest ≡ spaced more
  pub each : EachName more

-- these names are read of the text, up to the rest
pub record NamesTo (text rest : List ℕ) (names : List (List ℕ)) : Type 0 where
  pub whole : text ≡ spaced names ++ rest
  pub each : EachName names
  pub back : (others : List (List ℕ)) → AreSpacedNames text others → Behind rest names others

each_both : (xs : List (List ℕ)) (x : List ℕ) → EachName xs → IsName x → EachName (xs ++ x ∷ [])
each_both [] x h k = (k, tt)
each_both (y ∷ xs) x h k = (h.0, each_both xs x h.1 k)

spaced_more : (names : List (List ℕ)) (name : List ℕ) → spaced (names ++ name ∷ []) ≡ spaced names ++ 32 ∷ name
spaced_more names name = flat_map-append (λ n. 32 ∷ n) names (name ∷ []) ∙ ap (λ r. spaced names ++ 32 ∷ r) (append-nil name)

next_behind : (rest name back : List ℕ) (names others more : List (List ℕ)) → BeginsWithName rest name back → others ≡ names ++ more → rest ≡ spaced more → EachName more → Behind back (names ++ name ∷ []) others
next_behind rest name back names others [] b e f h = let no : [] ≡ 32 ∷ (name ++ back) → ⊥ = λ r. cc in absurd (no (sym f ∙ b.text))
next_behind rest name back names others (m ∷ more) b e f h =
    let same = upto_once name m back (spaced more) (name_lacks 32 name refl b.named) (name_lacks 32 m refl h.0) b.stops (spaced_stops more)
    (tail_of 32 32 (name ++ back) (m ++ spaced more) (sym b.text ∙ f)) in
    record {
      more = more;
      is = e ∙ ap (λ n. names ++ n ∷ more) (sym same.0) ∙ sym (append_assoc names (name ∷ []) more);
      text = same.1;
      each = h.1;
    }

name_read : (text rest name back : List ℕ) (names : List (List ℕ)) → NamesTo text rest names → BeginsWithName rest name back → NamesTo text back (names ++ name ∷ [])
name_read text rest name back names r b = record {
  whole = r.whole ∙ ap (λ x. spaced names ++ x) b.text ∙ sym (append_assoc (spaced names) (32 ∷ name) back) ∙ ap (λ x. x ++ back) (sym (spaced_more names name));
  each = each_both names name r.each b.named;
  back = λ others h.
      let k = r.back others h in
      next_behind rest name back names others k.more b k.is k.text k.each;
}

pub name_taken : (text rest back : List ℕ) (x : Bor (List ℕ)) (xs ys : List (Bor (List ℕ))) → ys ≡ xs ++ x ∷ [] → BeginsWithName rest x.now back → NamesTo text rest (map (λ n. n.now) xs) → NamesTo text back (map (λ n. n.now) ys)
name_taken text rest back x xs ys m b r =
    let Q : List (List ℕ) → Type 0 = λ ns. NamesTo text back ns in
    subst Q (sym (ap (map (λ n. n.now)) m ∙ map-append (λ n. n.now) xs (x ∷ []))) (name_read text rest x.now back (map (λ n. n.now) xs) r b)

pub name_shorter : (rest name back : List ℕ) → BeginsWithName rest name back → length back < length rest
name_shorter rest name back b = omega (arith, ap length b.text, length-append name back)

pub no_more : (text rest : List ℕ) (names : List (List ℕ)) → 0 < length rest → ((name back : List ℕ) → BeginsWithName rest name back → ⊥) → NamesTo text rest names → (others : List (List ℕ)) → AreSpacedNames text others → ⊥
no_more text rest names l none r others h = let k = r.back others h in first_is k.more k.text k.each
  where
    first_is : (more : List (List ℕ)) → rest ≡ spaced more → EachName more → ⊥
    first_is [] e n = absurd (omega (arith, l, ap length e))
    first_is (m ∷ more) e n = none m (spaced more) (first_of_spaced m more rest n.0 e)

no_bytes : (rest : List ℕ) → length rest ≡ 0 → rest ≡ []
no_bytes [] e = refl
no_bytes (b ∷ bs) e = absurd (omega (arith, e))

pub none_there : (text rest : List ℕ) (xs : List (Bor (List ℕ))) → length rest ≡ 0 → length xs ≡ 0 → NamesTo text rest (map (λ n. n.now) xs) → (others : List (List ℕ)) → AreSpacedNames text others → ⊥
none_there text rest xs e z r others h =
    let empty : length text ≡ 0 = ap length r.whole ∙ length-append (spaced (map (λ n. n.now) xs)) rest ∙ omega (arith, e, spaced_none xs z) in
    some others h (ap length (sym h.text) ∙ empty)
  where
    spaced_none : (xs : List (Bor (List ℕ))) → length xs ≡ 0 → length (spaced (map (λ n. n.now) xs)) ≡ 0
    spaced_none [] z = refl
    spaced_none (x ∷ xs) z = absurd (omega (arith, z))

    some : (others : List (List ℕ)) → AreSpacedNames text others → length (spaced others) ≡ 0 → ⊥
    some [] k e = absurd (omega (arith, k.some))
    some (n ∷ ns) k e = absurd (omega (arith, e, length-append n (spaced ns)))

pub names_found : (text rest : List ℕ) (xs : List (Bor (List ℕ))) → length rest ≡ 0 → 0 < length xs → NamesTo text rest (map (λ n. n.now) xs) → AreSpacedNames text (map (λ n. n.now) xs)
names_found text rest xs e l r = record {
  text = r.whole ∙ ap (λ x. spaced (map (λ n. n.now) xs) ++ x) (no_bytes rest e) ∙ append-nil (spaced (map (λ n. n.now) xs));
  each = r.each;
  some = omega (arith, l, length-map xs (λ n. n.now));
}

-- what a slice up to the first space has

pub up_to_place : (text : List ℕ) (n : ℕ) → Some n ≡ position (λ c. eqb c 32) text → IsUptoSpace text (take n text) (take (length text - n) (drop n text))
up_to_place text n e =
    let s = split_at_place 32 text n e in
    let back : drop n text ≡ 32 ∷ _ = append_cancel_left (take n text) (drop n text) (32 ∷ _) (take-append-drop n text ∙ s.text) in
    record {
      text = sym (take-append-drop n text) ∙ ap (λ r. take n text ++ r) (sym (tail_is n text));
      first = s.first;
      stops = subst StopsAtSpace (sym (tail_is n text ∙ back)) refl;
    }

pub all_upto : (text : List ℕ) → None ≡ position (λ c. eqb c 32) text → IsUptoSpace text text (take (length text - length text) (drop (length text) text))
all_upto text e =
    let none : take (length text - length text) (drop (length text) text) ≡ [] = tail_is (length text) text ∙ drop_all (length text) text (omega arith) in
    record {
      text = sym (append-nil text) ∙ ap (λ r. text ++ r) (sym none);
      first = lacks_unplaced 32 text e;
      stops = subst StopsAtSpace (sym none) tt;
    }
