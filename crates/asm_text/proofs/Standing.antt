-- A label that stands in a part has its name there.
use Rattle.std.proofs.Common.{◌≡◌, ℕ, suc, ◌<◌, Bool, true, false, cond, List, [], ◌∷◌, ◌++◌, length, Option, Some, None, Contains, refl, sym, ap, subst, ◌∙◌, arith}
use Rattle.std.proofs.lemmas.List.Elements.{Contains-append_right}
use Rattle.std.proofs.lemmas.Slice.Eq.{bytes_eq-Decides}
use Rattle.std.specs.Str.{bytes_eq}
use Rattle.rtl_tree.specs.declared.c_names.Names.{Names}
use Rattle.asm_program.specs.declared.places.Part.{Part}
use Rattle.asm_program.specs.declared.places.Part.TheVariants.{Outside, InText, InData}
use Rattle.asm_program.specs.declared.places.Place.{Place}
use Rattle.asm_program.specs.TextLines.{Label, Block, Symbol, Said, Nothing, Labelled}
use Rattle.asm_program.specs.Places.{first_from, part_after}
use Rattle.asm_names.specs.LabelNames.{AreNamesOf, label_name, names_in, taken}
use Rattle.asm_instances.specs.Known.{HaveLabels}

same_part : (p q : Place) → Some p ≡ Some q → p.part ≡ q.part
same_part p q e = ap (λ (r : Place). r.part) (same p q e)
  where
    same : (p q : Place) → Some p ≡ Some q → p ≡ q
    same p q e = cc

module _ (wanted : Part) (keeps : (o : Option (List ℕ)) (part : Part) (names : List (List ℕ)) (y : List ℕ) → Contains names y → Contains (taken wanted part o names) y)
    (here : (names : List (List ℕ)) (y : List ℕ) → Contains (taken wanted wanted (Some y) names) y) where
  at_symbol : (b : Bool) (y x : List ℕ) (k line : ℕ) (part : Part) (o : Option Place) (rest : List (List ℕ)) → bytes_eq y x ≡ b
      → cond b (Some (record { line = k; part = part })) o ≡ Some (record { line = line; part = wanted }) → (o ≡ Some (record { line = line; part = wanted }) → Contains rest x)
      → Contains (taken wanted part (Some y) rest) x
  at_symbol true y x k line part o rest e f later =
      let p : part ≡ wanted = same_part (record { line = k; part = part }) (record { line = line; part = wanted }) f in
      subst (λ (q : Part). Contains (taken wanted q (Some y) rest) x) (sym p)
      (subst (λ (z : List ℕ). Contains (taken wanted wanted (Some z) rest) x) (sym ((bytes_eq-Decides y x).0 e)) (here rest x))
  at_symbol false y x k line part o rest e f later = keeps (Some y) part rest x (later f)

  found_in : (k : ℕ) (part : Part) (x : List ℕ) (ss : List Said) (line : ℕ) → first_from k part (Symbol x) ss ≡ Some (record { line = line; part = wanted }) → Contains (names_in wanted part ss) x
  found_in k part x [] line e = absurd (cc)
  found_in k part x (Labelled (Symbol y) ∷ ss) line e =
      at_symbol (bytes_eq y x) y x k line part (first_from (suc k) (part_after part (Labelled (Symbol y))) (Symbol x) ss) (names_in wanted (part_after part (Labelled (Symbol y))) ss) refl e
      (λ f. found_in (suc k) (part_after part (Labelled (Symbol y))) x ss line f)
  found_in k part x (Labelled (Block b) ∷ ss) line e = found_in (suc k) (part_after part (Labelled (Block b))) x ss line e
  found_in k part x (Nothing ∷ ss) line e = found_in (suc k) (part_after part Nothing) x ss line e
  found_in k part x (s ∷ ss) line e = found_in (suc k) (part_after part s) x ss line e

text_keeps : (o : Option (List ℕ)) (part : Part) (names : List (List ℕ)) (y : List ℕ) → Contains names y → Contains (taken InText part o names) y
text_keeps None part names y c = c
text_keeps (Some x) InText names y c = Contains-append_right (x ∷ []) names y c
text_keeps (Some x) InData names y c = c
text_keeps (Some x) Outside names y c = c

data_keeps : (o : Option (List ℕ)) (part : Part) (names : List (List ℕ)) (y : List ℕ) → Contains names y → Contains (taken InData part o names) y
data_keeps None part names y c = c
data_keeps (Some x) InData names y c = Contains-append_right (x ∷ []) names y c
data_keeps (Some x) InText names y c = c
data_keeps (Some x) Outside names y c = c

-- the names of a text have each of its labels
pub have_labels : (n : Names) (all : List Said) → AreNamesOf n all → HaveLabels n all
have_labels n all a =
    record {
      objects = λ x s. subst (λ (xs : List (List ℕ)). Contains xs x) (sym a.objects) (found_in InData data_keeps (λ names y. (0, omega arith, refl)) 0 Outside x all s.line s.first);
      functions = λ x s. subst (λ (xs : List (List ℕ)). Contains xs x) (sym a.functions) (found_in InText text_keeps (λ names y. (0, omega arith, refl)) 0 Outside x all s.line s.first);
    }
