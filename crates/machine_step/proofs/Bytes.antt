-- What was written and taken in two parts.
use Rattle.std.proofs.Common.{◌≡◌, ℕ, ◌+◌, ◌≤◌, List, [], ◌++◌, take, drop, Bool, true, false, Option, Some, None, refl, sym, ap, ◌∙◌, append-nil, append_assoc, subst}
use Rattle.std.proofs.lemmas.List.{take-append-drop}
use Rattle.std.specs.Prelude.{Result, Ok, Err, OnErr}
use Rattle.std.specs.Io.KnownBytes.{Appends, Consumes, IsAtEnd}
use Rattle.vp_io.specs.Contents.{AppendsPart}
use Rattle.vp_io.specs.Counts.{Rose}
use Rattle.machine_devices.specs.Devices.{Prints}
use Rattle.machine_step.specs.Steps.{MarkMoves}

pub on_err : {T E : Type 0} → (r : Result T E) (P Q : Type 0) → (P → Q) → OnErr r P → OnErr r Q
on_err (Ok x) P Q f h = h
on_err (Err e) P Q f h = f h

pub appends_nothing : (a : Option (List ℕ)) → Appends a a []
appends_nothing None = tt
appends_nothing (Some xs) = sym (append-nil xs)

pub consumes_nothing : (a : Option (List ℕ)) → Consumes a a []
consumes_nothing None = tt
consumes_nothing (Some xs) = refl

appends_then : (a b c : Option (List ℕ)) (x y : List ℕ) → Appends a b x → Appends b c y → Appends a c (x ++ y)
appends_then None b c x y h k = tt
appends_then (Some s) None c x y h k = absurd h
appends_then (Some s) (Some t) None x y h k = absurd k
appends_then (Some s) (Some t) (Some u) x y h k = k ∙ ap (λ r. r ++ y) h ∙ append_assoc s x y

pub consumes_then : (a b c : Option (List ℕ)) (x y : List ℕ) → Consumes a b x → Consumes b c y → Consumes a c (x ++ y)
consumes_then None b c x y h k = tt
consumes_then (Some s) None c x y h k = absurd h
consumes_then (Some s) (Some t) None x y h k = absurd k
consumes_then (Some s) (Some t) (Some u) x y h k = h ∙ ap (λ r. x ++ r) k ∙ sym (append_assoc x y u)

-- where the end was seen, nothing follows: so before a call too, with what it took
pub follows_before : (a b : Bool) (d e : ℕ) (l m : Option (List ℕ)) (x more : List ℕ) → MarkMoves a b d e l m x → (b ≡ true → more ≡ []) → a ≡ true → x ++ more ≡ []
follows_before true b d e l m x more h k i = ap (λ t. t ++ more) h.1 ∙ k h.0
follows_before false b d e l m x more h k i = absurd (let z : false ≡ true = i in cc)

pub prints_nothing : (a : Option (List ℕ)) (p : List ℕ) → Prints a p a p []
prints_nothing a p = ([], appends_nothing a, append-nil p)

pub prints_then : (a b c : Option (List ℕ)) (p q r x y : List ℕ) → Prints a p b q x → Prints b q c r y → Prints a p c r (x ++ y)
prints_then a b c p q r x y h k = (
  (h.0 ++ k.0),
  (appends_then a b c h.0 k.0 h.1 k.1),
  (sym (append_assoc p x y) ∙ ap (λ o. o ++ y) h.2 ∙ append_assoc h.0 q y ∙ ap (λ o. h.0 ++ o) k.2 ∙ sym (append_assoc h.0 k.0 r)),
)

-- all that waited was written
pub prints_all : (a b : Option (List ℕ)) (p out : List ℕ) → Appends a b (p ++ out) → Prints a p b [] out
prints_all a b p out h = ((p ++ out), h, sym (append-nil (p ++ out)))

pub prints_waiting : (a b : Option (List ℕ)) (p : List ℕ) → Appends a b p → Prints a p b [] []
prints_waiting a b p h = (p, h, refl)

-- some first bytes of it were
pub prints_part : (a b : Option (List ℕ)) (p out : List ℕ) → AppendsPart a b (p ++ out) → (lost : List ℕ) × Prints a p b lost out
prints_part a b p out h = ((drop h.0 (p ++ out)), ((take h.0 (p ++ out)), h.1, sym (take-append-drop h.0 (p ++ out))))

pub prints_part_waiting : (a b : Option (List ℕ)) (p : List ℕ) → AppendsPart a b p → (lost : List ℕ) × Prints a p b lost []
prints_part_waiting a b p h = ((drop h.0 p), ((take h.0 p), h.1, (append-nil p ∙ sym (take-append-drop h.0 p))))

pub marks_none : (b : Bool) (e : ℕ) (l : Option (List ℕ)) → MarkMoves b b e e l l []
marks_none true e l = (refl, refl, refl, refl)
marks_none false e l = refl

pub marks_then : (a b c : Bool) (d e f : ℕ) (l m n : Option (List ℕ)) (x y : List ℕ) → MarkMoves a b d e l m x → MarkMoves b c e f m n y → MarkMoves a c d f l n (x ++ y)
marks_then true true c d e f l m n x y h k = (k.0, (ap (λ t. t ++ y) h.1 ∙ k.1), (k.2 ∙ h.2), (k.3 ∙ h.3))
marks_then true false c d e f l m n x y h k = absurd (let z : false ≡ true = h.0 in cc)
marks_then false true true d e f l m n x y h k = ((subst (λ z. Rose d z) (sym k.2) h.0), (subst IsAtEnd (sym k.3) h.1))
marks_then false true false d e f l m n x y h k = absurd (let z : false ≡ true = k.0 in cc)
marks_then false false true d e f l m n x y h k = ((subst (λ z. Rose z f) h k.0), k.1)
marks_then false false false d e f l m n x y h k = k ∙ h
