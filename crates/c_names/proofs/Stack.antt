-- Declaring a name, and forgetting the last one.
use Rattle.std.proofs.Common.{◌≡◌, ◌+◌, length, drop, nat_le, ℕ, Bool, true, false, cond, if◌then◌else◌, Option, Some, None, List, [], ◌∷◌, ◌++◌, map, refl, sym, ap, ◌∙◌, subst}
use mathlib.Core.List.{append_assoc, append-nil}
use Rattle.std.specs.Str.{bytes_eq}
use Rattle.std.proofs.lemmas.Slice.Eq.{bytes_eq-Decides}
use Rattle.std.specs.Borrow.{Bor}
use Rattle.std.specs.HashMap.{HashMap}
use Rattle.c_names.specs.declared.entry.Known.{Known}
use Rattle.c_names.specs.declared.entry.Kept.{Kept}
use Rattle.c_names.specs.Known.{known_at, known_in, or_else, due_behind, due_of, Agrees}

one_more : (b : Bool) (k : Known) → or_else None (if b then Some k else None) ≡ cond b (Some k) None
one_more true k = refl
one_more false k = refl

under : (b c : Bool) (k m : Known) (x : Option Known) → or_else (cond b (Some k) x) (if c then Some m else None) ≡ cond b (Some k) (or_else x (if c then Some m else None))
under true c k m x = refl
under false c k m x = refl

pub known_last : (es : List Kept) (e : Kept) (name : List ℕ) → known_in (es ++ e ∷ []) name ≡ cond (bytes_eq e.name.now name) (Some e.known) (known_in es name)
known_last [] e name = one_more (bytes_eq e.name.now name) e.known
known_last (x ∷ es) e name =
    ap (λ o. or_else o (if bytes_eq x.name.now name then Some x.known else None)) (known_last es e name)
    ∙ under (bytes_eq e.name.now name) (bytes_eq x.name.now name) e.known x.known (known_in es name)

abbrev Due : Type 0
Due = Option Known × ℕ

head_of : (x y : Due) (xs ys : List Due) → x ∷ xs ≡ y ∷ ys → x ≡ y
head_of x y xs ys e = cc

tail_of : (x y : Due) (xs ys : List Due) → x ∷ xs ≡ y ∷ ys → xs ≡ ys
tail_of x y xs ys e = cc

abbrev due : List Kept → Kept → Due
due before e = (known_in before e.name.now, length before)

-- what each hides and its number are as they should be
record Stacked (before es : List Kept) : Type 0 where
  is : map due_of es ≡ due_behind before es

both : (x y : Due) (xs ys : List Due) → x ≡ y → xs ≡ ys → x ∷ xs ≡ y ∷ ys
both x y xs ys e f = ap (λ z. z ∷ xs) e ∙ ap (λ zs. y ∷ zs) f

pushed : (before es : List Kept) (e : Kept) → Stacked before es → due_of e ≡ due (before ++ es) e → Stacked before (es ++ e ∷ [])
pushed before [] e s h = record { is = ap (λ o. o ∷ []) (subst (λ xs. due_of e ≡ due xs e) (append-nil before) h) }
pushed before (x ∷ es) e s h =
    let rest = pushed (before ++ x ∷ []) es e (record { is = tail_of _ _ _ _ s.is }) (subst (λ xs. due_of e ≡ due xs e) (sym (append_assoc before (x ∷ []) es)) h) in
    record { is = both _ _ _ _ (head_of _ _ _ _ s.is) rest.is }

record Popped (before es : List Kept) (e : Kept) : Type 0 where
  stacked : Stacked before es
  hidden : due_of e ≡ due (before ++ es) e

popped : (before es : List Kept) (e : Kept) → Stacked before (es ++ e ∷ []) → Popped before es e
popped before [] e s = record { stacked = record { is = refl }; hidden = subst (λ xs. due_of e ≡ due xs e) (sym (append-nil before)) (head_of _ _ _ _ s.is) }
popped before (x ∷ es) e s =
    let p = popped (before ++ x ∷ []) es e (record { is = tail_of _ _ _ _ s.is }) in
    record {
      stacked = record { is = both _ _ _ _ (head_of _ _ _ _ s.is) p.stacked.is };
      hidden = subst (λ xs. due_of e ≡ due xs e) (append_assoc before (x ∷ []) es) p.hidden;
    }

module _ {S : Type 0} (table more : HashMap (Bor (List ℕ)) Known S) (es : List Kept) (e : Kept) where
  pub declared : Agrees es table → due_of e ≡ due es e
      → ((other : List ℕ) → known_at more other ≡ cond (bytes_eq e.name.now other) (Some e.known) (known_at table other)) → Agrees (es ++ e ∷ []) more
  declared a h new = (
    (λ name. new name ∙ ap (cond (bytes_eq e.name.now name) (Some e.known)) (a.0 name) ∙ sym (known_last es e name)),
    (pushed [] es e (record { is = a.1 }) h).is,
  )

  back : (b : Bool) (name : List ℕ) → bytes_eq e.name.now name ≡ b → e.hidden ≡ known_in es e.name.now → cond b e.hidden (cond b (Some e.known) (known_in es name)) ≡ known_in es name
  back true name same h = h ∙ ap (known_in es) ((bytes_eq-Decides e.name.now name).0 same)
  back false name same h = refl

  pub forgotten : Agrees (es ++ e ∷ []) table
      → ((other : List ℕ) → known_at more other ≡ cond (bytes_eq e.name.now other) e.hidden (known_at table other)) → Agrees es more
  forgotten a old =
      let p = popped [] es e (record { is = a.1 }) in
      ((λ name. old name ∙ ap (cond (bytes_eq e.name.now name) e.hidden) (a.0 name ∙ known_last es e name) ∙ back (bytes_eq e.name.now name) name refl (ap (λ (d : Due). d.0) p.hidden)), p.stacked.is)
