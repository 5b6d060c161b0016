-- Finished code does the operations that were appended.
use Rattle.std.proofs.Common.{◌≡◌, ℕ, List, [], ◌∷◌, ◌++◌, sym, ap, ◌∙◌, subst}
use Rattle.std.specs.List.{All}
use Rattle.std.proofs.lemmas.List.Elements.{All-nil, All-cons, All-append, All-push, All-weaker}
use Rattle.md_rows.specs.declared.description.RawDescription.{RawDescription}
use Rattle.md_shapes.specs.Shapes.{Frame as Fixed}
use Rattle.temp_code.specs.declared.code.Transfer.{Transfer}
use Rattle.temp_code.specs.declared.code.End.{End}
use Rattle.temp_code.specs.declared.code.End.TheVariants.{Return}
use Rattle.temp_code.specs.declared.code.Block.{Block}
use Rattle.temp_code.specs.Realised.{IsRealised, end_transfers, transfers_of}
use Rattle.temp_shapes.specs.Elementary.{IsElementary}
use Rattle.naive_code.specs.Operations.{Stop, Op}
use Rattle.naive_run.specs.Standing.{Shaped}
use Rattle.naive_builder.specs.Appending.{Emitted, begun, IsMade, AllMade, IsEnd, falls, jumps, branches, branches_by_flag, calls, leaves, AppendsOne, puts, closes, Appends, nothing, one_more, opened}
use Rattle.naive_builder.specs.Finished.{finished, AreOnce, FinishedDoesOperations}
use Rattle.naive_builder.proofs.Places.{place_of, IsWithin, within_finished, end_at}
use Rattle.naive_builder.proofs.Labels.{labels_in, labels_of}
use Rattle.naive_builder.proofs.Built.{AreLaws, all_stands}

module _ (d : RawDescription) (m : Fixed) where
  abbrev Holds : Transfer → Type 0
  Holds t = IsRealised d t × IsElementary d t

  abbrev AllHold : List Block → Type 0
  AllHold bs = All (λ b. All Holds (transfers_of b)) bs

  record Hold (s : Emitted) : Type 0 where
    blocks : AllHold s.blocks
    body : All Holds s.body

  made_holds : (s : Shaped) (t : Transfer) → IsMade d m s t → Holds t
  made_holds s t h = (record { row = h.transfer.row; instance = h.transfer.instance; effects = h.transfer.effects }, h.elementary)

  all_made_hold : (way : List Shaped) (ts : List Transfer) → AllMade d m way ts → All Holds ts
  all_made_hold [] [] h = All-nil Holds
  all_made_hold (s ∷ way) (t ∷ ts) h = All-cons Holds t ts (made_holds s t h.1) (all_made_hold way ts h.2)
  all_made_hold [] (t ∷ ts) h = absurd h
  all_made_hold (s ∷ way) [] h = absurd h

  one_holds : (s : Shaped) (t : Transfer) → IsMade d m s t → All Holds (t ∷ [])
  one_holds s t h = All-cons Holds t [] (made_holds s t h) (All-nil Holds)

  end_holds : (stop : Stop) (ts : List Transfer) (e : End) → IsEnd d m stop ts e → All Holds ts × All Holds (end_transfers e)
  end_holds _ _ _ falls = (All-nil Holds, All-nil Holds)
  end_holds _ _ _ leaves = (All-nil Holds, All-nil Holds)
  end_holds _ _ _ (jumps l t h) = (All-nil Holds, one_holds _ t h)
  end_holds _ _ _ (calls f t h) = (All-nil Holds, one_holds _ t h)
  end_holds _ _ _ (branches r a b l t h) = (All-nil Holds, one_holds _ t h)
  end_holds _ _ _ (branches_by_flag r a b l j compare jump h k) = (one_holds _ compare h, one_holds _ jump k)

  one_hold : (s t : Emitted) (o : Op) → AppendsOne d m s o t → Hold s → Hold t
  one_hold _ _ _ (puts s o way ts k h) x = record { blocks = x.blocks; body = All-append Holds s.body ts x.body (all_made_hold way ts h) }
  one_hold _ _ _ (closes s stop l ts e h) x =
      let y = end_holds stop ts e h in
      record {
        blocks = All-push (λ (b : Block). All Holds (transfers_of b)) s.blocks _ x.blocks
            (All-append Holds (s.body ++ ts) (end_transfers e) (All-append Holds s.body ts x.body y.0) y.1);
        body = All-nil Holds;
      }

  all_hold : (s t : Emitted) (os : List Op) → Appends d m s os t → Hold s → Hold t
  all_hold _ _ _ (nothing s) x = x
  all_hold _ _ _ (one_more s t u o os one rest) x = all_hold t u os rest (one_hold s t o one x)

  finished_holds : (s : Emitted) → Hold s → AllHold (finished s)
  finished_holds s x =
      All-push (λ (b : Block). All Holds (transfers_of b)) s.blocks _ x.blocks (All-append Holds s.body (end_transfers Return) x.body (All-nil Holds))

pub built_does_operations : AreLaws → FinishedDoesOperations
built_does_operations laws w d m label os s c checked size memory h once is =
    let labels : labels_in c.blocks ≡ label ∷ opened os = ap (λ (bs : List Block). labels_in bs) is ∙ labels_of d m (begun label) s os h in
    let all_once = subst (λ (ls : List ℕ). AreOnce ls) (sym labels) once in
    let within = subst (λ (bs : List Block). IsWithin bs s) (sym is) (within_finished s) in
    let nothing_yet : Hold d m (begun label) = record { blocks = All-nil _; body = All-nil _ } in
    let holds = subst (λ (bs : List Block). AllHold d m bs) (sym is) (finished_holds d m s (all_hold d m (begun label) s os h nothing_yet)) in
    record {
      last = place_of s;
      stands = all_stands laws w d m checked size memory c (begun label) s os all_once h within;
      returns = end_at c s.blocks s.label [] s.body Return is;
      labels = labels;
      realised = All-weaker (λ (b : Block). All (Holds d m) (transfers_of b)) (λ (b : Block). All (IsRealised d) (transfers_of b))
          (λ b x. All-weaker (Holds d m) (IsRealised d) (λ (t : Transfer) (y : Holds d m t). y.0) (transfers_of b) x) c.blocks holds;
      elementary = All-weaker (λ (b : Block). All (Holds d m) (transfers_of b)) (λ (b : Block). All (IsElementary d) (transfers_of b))
          (λ b x. All-weaker (Holds d m) (IsElementary d) (λ (t : Transfer) (y : Holds d m t). y.1) (transfers_of b) x) c.blocks holds;
    }
