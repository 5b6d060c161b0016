-- Bodies, transfer by transfer.
use Rattle.std.proofs.Common.{◌≡◌, ℕ, zero, suc, ◌+◌, ◌<◌, ◌≤◌, List, [], ◌∷◌, ◌++◌, map, drop, get_or, length, refl, sym, ap, subst, ◌∙◌, arith}
use Rattle.std.proofs.lemmas.List.{append_assoc, map-append, append-nil}
use Rattle.std.proofs.lemmas.List.Elements.{All-nil, All-cons, All-append}
use Rattle.std.proofs.Math.Seq.{drop-cons}
use Rattle.rtl_tree.specs.Moves.{Move}
use Rattle.md_rows.specs.declared.description.RawDescription.{RawDescription}
use Rattle.temp_machine.specs.Routines.{Routine, Target}
use Rattle.temp_code.specs.declared.code.Transfer.{Transfer}
use Rattle.temp_code.specs.Routines.{routine_of}
use Rattle.color_code.specs.Colors.{Seats}
use Rattle.color_transfer.specs.Code.{AreColored, no_transfer, a_transfer}
use Rattle.color_graph.specs.Seats.{seats_in}
use Rattle.color_homes.specs.declared.places.Places.{Places}
use Rattle.color_homes.specs.Putting.{IsPlainStep, PutsAll, target_in}
use Rattle.reg_color.specs.Putting.{MayStand, StandsFor, StandFor}

abbrev pub what : Transfer → List Move
what y = y.what

pub all_dropped : {A : Type 0} (xs : List A) (i : ℕ) → length xs ≤ i → drop i xs ≡ []
all_dropped [] zero l = refl
all_dropped [] (suc i) l = refl
all_dropped (x ∷ xs) zero l = absurd (omega (arith, l))
all_dropped (x ∷ xs) (suc i) l = all_dropped xs i (let k : suc (length xs) ≤ suc i = l in omega (arith, k))

module _ (d : RawDescription) (p : Places) where
  abbrev t : Target
  t = target_in d p

  abbrev r : Routine
  r = routine_of p.code.now

  abbrev seats : Seats
  seats = seats_in p.seats.now

  pub stands : (x : Transfer) (before after : List Transfer) → MayStand d p x → PutsAll d p x before after → StandsFor d p x before after
  stands x before after may puts =
      record {
        added = puts.loads ++ puts.middle ∷ puts.stores;
        is = puts.is;
        colored =
            record {
              loads = map what puts.loads;
              middle = puts.middle.what;
              stores = map what puts.stores;
              is = map-append what puts.loads (puts.middle ∷ puts.stores);
              parts = puts.put.parts;
            };
        each =
            All-append (IsPlainStep d t) puts.loads (puts.middle ∷ puts.stores) puts.put.before
            (All-cons (IsPlainStep d t) puts.middle puts.stores
            (record { realised = puts.put.realised; plain = puts.put.plain; straight = puts.put.straight may.straight }) puts.put.behind);
      }

  pub none_left : (made : List Transfer) → StandFor d p [] made made
  none_left made = record { added = []; is = sym (append-nil made); colored = no_transfer; each = All-nil (IsPlainStep d t) }

  more : (x : Transfer) (rest a b c : List Transfer) → StandsFor d p x a b → StandFor d p rest b c → StandFor d p (x ∷ rest) a c
  more x rest a b c s q =
      record {
        added = s.added ++ q.added;
        is = q.is ∙ (ap (λ (ys : List Transfer). ys ++ q.added) s.is ∙ append_assoc a s.added q.added);
        colored =
            subst (λ (ys : List (List Move)). AreColored t r seats (x.what ∷ map what rest) ys) (sym (map-append what s.added q.added))
            (a_transfer x.what (map what s.added) (map what rest) (map what q.added) s.colored q.colored);
        each = All-append (IsPlainStep d t) s.added q.added s.each q.each;
      }

  -- what is made so far, with what stands for the rest
  pub next_left : (body : List Transfer) (i : ℕ) (x : Transfer) (made new : List Transfer) → i < length body → x ≡ get_or body i x
      → ((after : List Transfer) → StandFor d p (drop i body) made after → StandFor d p body [] after) → StandsFor d p x made new
      → (after : List Transfer) → StandFor d p (drop (i + 1) body) new after → StandFor d p body [] after
  next_left body i x made new l is left s after q =
      let at : drop i body ≡ x ∷ drop (i + 1) body =
      drop-cons body i x l ∙ (λ j. sym is j ∷ drop (let e : suc i ≡ i + 1 = omega arith in e j) body) in
      left after (subst (λ (ys : List Transfer). StandFor d p ys made after) (sym at) (more x (drop (i + 1) body) made new after s q))
