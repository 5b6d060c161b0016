-- Bytes with objects between them: what is read of them.
use Rattle.std.proofs.Common.{◌≡◌, ◌⊎◌, inl, inr, ℕ, suc, ◌+◌, ◌-◌, ◌*◌, ◌<◌, true, pos, List, [], ◌∷◌, ◌++◌, length, replicate, refl, sym, ap, subst, ◌∙◌, arith, append_assoc, length-append}
use Rattle.std.proofs.lemmas.Bool.{lt-ltb}
use Rattle.std.proofs.lemmas.List.{append-nil}
use Rattle.asm_program.specs.declared.places.Part.TheVariants.{InData}
use Rattle.asm_program.specs.TextLines.{Label, Block, Symbol, Said, Labelled, Byte}
use Rattle.asm_program.specs.Places.{aligned, part_after}
use Rattle.asm_program.specs.Rules.{is_in_place}
use Rattle.asm_program.specs.Programs.{padded, bytes_after, bytes_from, object_of, objects_from}
use Rattle.asm_print.specs.Layout.{Stop, byte_lines}
use Rattle.asm_print.proofs.Weaving.{Weave, finished, a_line, a_label, AreInPlace, ArePlain, counts, reaches, Each}

-- lines of these bytes
abbrev pub BytesOf : List Said → List ℕ → Type 0
BytesOf [] [] = Unit {0}
BytesOf (s ∷ ss) (b ∷ bs) = (s ≡ Byte (pos b)) × BytesOf ss bs
BytesOf _ _ = ⊥

pub bytes_of : (bs : List ℕ) → BytesOf (byte_lines bs) bs
bytes_of [] = tt
bytes_of (b ∷ bs) = (refl, bytes_of bs)

pub bytes_plain : (bs : List ℕ) → ArePlain (byte_lines bs)
bytes_plain [] = tt
bytes_plain (b ∷ bs) = bytes_plain bs

-- each label stands at a whole number of words from where the data begin
abbrev pub AreAligned : ℕ → ℕ → List Stop → Type 0
AreAligned base wb [] = Unit {0}
AreAligned base wb (stop ∷ stops) = ((c : ℕ) × (stop.1 ≡ base + c * wb)) × AreAligned base wb stops

-- the objects among the labels
abbrev pub objects_at : List Stop → List (List ℕ × ℕ)
objects_at [] = []
objects_at ((Symbol s, at) ∷ stops) = (s, at) ∷ objects_at stops
objects_at ((Block b, at) ∷ stops) = objects_at stops

pub data_counts : (n : ℕ) (ss : List Said) → counts InData n ss ≡ n
data_counts n [] = refl
data_counts n (s ∷ ss) = data_counts n ss

two : (n c : ℕ) → n ≡ c * 2 → aligned 2 n ≡ n
two n c h = omega (arith, h)

four : (n c : ℕ) → n ≡ c * 4 → aligned 4 n ≡ n
four n c h = omega (arith, h)

module _ (wb base : ℕ) (size : (wb ≡ 2) ⊎ (wb ≡ 4)) where
  same_aligned : (n c : ℕ) → n ≡ c * wb → aligned wb n ≡ n
  same_aligned n c h = elim size [
    | inl e ↦ subst (λ (v : ℕ). aligned v n ≡ n) (sym e) (two n c (h ∙ ap (λ (v : ℕ). c * v) e))
    | inr e ↦ subst (λ (v : ℕ). aligned v n ≡ n) (sym e) (four n c (h ∙ ap (λ (v : ℕ). c * v) e))
  ]

  same_padded : (done : List ℕ) → aligned wb (length done) ≡ length done → padded wb done ≡ done
  same_padded done e =
      ap (λ (m : ℕ). done ++ replicate m 0) (let q : aligned wb (length done) - length done ≡ 0 = omega (arith, e) in q) ∙ append-nil done

  whole : (k c n : ℕ) → k ≡ base + c * wb → k ≡ base + n → n ≡ c * wb
  whole k c n e f = omega (arith, e, f)

  at_word : (k : ℕ) (done : List ℕ) → ((c : ℕ) × (k ≡ base + c * wb)) → k ≡ base + length done → aligned wb (length done) ≡ length done
  at_word k done a e = same_aligned (length done) a.0 (whole k a.0 (length done) a.1 e)

  next_place : (k b : ℕ) (done : List ℕ) → k ≡ base + length done → suc k ≡ base + length (done ++ b ∷ [])
  next_place k b done e = omega (arith, e, length-append done (b ∷ []))

  pub weave_bytes : (k end : ℕ) (stops : List Stop) (lines out : List Said) → Weave k stops lines out end → (bs : List ℕ) → BytesOf lines bs → AreAligned base wb stops
      → (done : List ℕ) → k ≡ base + length done → bytes_from wb done out ≡ done ++ bs
  weave_bytes k end stops lines out (finished j) [] h a done e = sym (append-nil done)
  weave_bytes k end stops lines out (finished j) (b ∷ bs) h a done e = absurd h
  weave_bytes k end stops lines out (a_line j f s ss xs ys w) [] h a done e = absurd h
  weave_bytes k end stops lines out (a_line j f s ss xs ys w) (b ∷ bs) h a done e =
      ap (λ (x : Said). bytes_from wb (bytes_after wb done x) ys) h.0
      ∙ weave_bytes (suc j) f ss xs ys w bs h.1 a (done ++ b ∷ []) (next_place j b done e)
      ∙ append_assoc done (b ∷ []) bs
  weave_bytes k end stops lines out (a_label j f l ss xs ys w) bs h a done e =
      ap (λ (x : List ℕ). bytes_from wb x ys) (same_padded done (at_word j done a.0 e))
      ∙ weave_bytes j f ss xs ys w bs h a.1 done e

  label_object : (address j : ℕ) (l : Label) (ss : List Stop) (rest : List (List ℕ × ℕ)) → address ≡ j → rest ≡ objects_at ss
      → object_of address (Labelled l) ++ rest ≡ objects_at ((l, j) ∷ ss)
  label_object address j (Symbol s) ss rest e f = ap (λ (n : ℕ). (s, n) ∷ rest) e ∙ ap (λ (xs : List (List ℕ × ℕ)). (s, j) ∷ xs) f
  label_object address j (Block b) ss rest e f = f

  pub weave_objects : (k end : ℕ) (stops : List Stop) (lines out : List Said) → Weave k stops lines out end → (bs : List ℕ) → BytesOf lines bs → AreAligned base wb stops
      → (done : List ℕ) → k ≡ base + length done → objects_from base wb done out ≡ objects_at stops
  weave_objects k end stops lines out (finished j) bs h a done e = refl
  weave_objects k end stops lines out (a_line j f s ss xs ys w) [] h a done e = absurd h
  weave_objects k end stops lines out (a_line j f s ss xs ys w) (b ∷ bs) h a done e =
      ap (λ (x : Said). objects_from base wb done (x ∷ ys)) h.0
      ∙ weave_objects (suc j) f ss xs ys w bs h.1 a (done ++ b ∷ []) (next_place j b done e)
  weave_objects k end stops lines out (a_label j f l ss xs ys w) bs h a done e =
      let same = same_padded done (at_word j done a.0 e) in
      ap (λ (x : List ℕ). object_of (base + length x) (Labelled l) ++ objects_from base wb x ys) same
      ∙ label_object (base + length done) j l ss (objects_from base wb done ys) (sym e) (weave_objects j f ss xs ys w bs h a.1 done e)

  pub weave_reaches : (k end : ℕ) (stops : List Stop) (lines out : List Said) → Weave k stops lines out end → (bs : List ℕ) → BytesOf lines bs → AreAligned base wb stops
      → (r : ℕ) → k ≡ base + r → reaches wb InData r out ≡ r + length bs
  weave_reaches k end stops lines out (finished j) [] h a r e = let q : r ≡ r + 0 = omega arith in q
  weave_reaches k end stops lines out (finished j) (b ∷ bs) h a r e = absurd h
  weave_reaches k end stops lines out (a_line j f s ss xs ys w) [] h a r e = absurd h
  weave_reaches k end stops lines out (a_line j f s ss xs ys w) (b ∷ bs) h a r e =
      ap (λ (x : Said). reaches wb InData r (x ∷ ys)) h.0
      ∙ weave_reaches (suc j) f ss xs ys w bs h.1 a (r + 1) (let q : suc j ≡ base + (r + 1) = omega (arith, e) in q)
      ∙ (let q : r + 1 + length bs ≡ r + suc (length bs) = omega arith in q)
  weave_reaches k end stops lines out (a_label j f l ss xs ys w) bs h a r e =
      ap (λ (n : ℕ). reaches wb InData n ys) (same_aligned r a.0.0 (whole j a.0.0 r a.0.1 e)) ∙ weave_reaches j f ss xs ys w bs h a.1 r e

pub weave_in_data : (w k end : ℕ) (stops : List Stop) (lines out : List Said) → Weave k stops lines out end → (bs : List ℕ) → BytesOf lines bs → Each (λ b. b < 256) bs
    → AreInPlace w InData out
weave_in_data w k end stops lines out (finished j) bs h small = tt
weave_in_data w k end stops lines out (a_line j f s ss xs ys v) [] h small = absurd h
weave_in_data w k end stops lines out (a_line j f s ss xs ys v) (b ∷ bs) h small =
    subst (λ (x : Said). (is_in_place w InData x ≡ true) × AreInPlace w (part_after InData x) ys) (sym h.0)
    (lt-ltb b 256 small.0, weave_in_data w (suc j) f ss xs ys v bs h.1 small.1)
weave_in_data w k end stops lines out (a_label j f l ss xs ys v) bs h small = (refl, weave_in_data w j f ss xs ys v bs h small)
