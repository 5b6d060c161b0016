-- A whole body against the coloured one.
use Rattle.std.proofs.Common.{◌≡◌, ℕ, Bool, List, ◌∷◌, ◌++◌, Option, Some, None, Result, Ok, Err, refl, sym, ap, ◌∙◌, subst, append_assoc}
use Rattle.rtl_tree.specs.declared.cells.Cell.{Cell}
use Rattle.rtl_tree.specs.Moves.{Move}
use Rattle.behaviour.specs.Steps.{Move as Step}
use Rattle.rtl_effect.specs.Views.{Stop, View}
use Rattle.rtl_effect.specs.Effects.{Done, effect}
use Rattle.temp_machine.specs.Routines.{Routine, Target}
use Rattle.temp_machine.specs.Machine.{State, printed_with, unless_halted, made, body_made}
use Rattle.color_code.specs.Colors.{Seats}
use Rattle.color_spilling.specs.Passing.{Passes, over, more, IsPlaced}
use Rattle.color_transfer.specs.Colored.{IsColored}
use Rattle.color_transfer.specs.Code.{AreColored, no_transfer, a_transfer}
use Rattle.color_holding.specs.Holding.{Holds, IsStill}
use Rattle.color_holding.specs.Places.{AreGeneral, IsPlace, ArePlaces, no_place, a_place}
use Rattle.color_holding.specs.Laws.{IsKept, AreBodiesAlike, old_fails, both_stop, both_go, BodyKeeps}
use Rattle.color_holding.proofs.Transfers.{transfer_keeps}

abbrev Rest : Type 0
Rest = View → List ℕ → Step State

-- transfers that are made and neither print nor end the run
pub passes_body : (w : ℕ) (code tail : List (List Move)) (z x : View) (out : List ℕ) (go : Rest) → Passes w code z x → body_made w (code ++ tail) z out go ≡ body_made w tail x out go
passes_body w _ tail z _ out go (over _) = refl
passes_body w _ tail z x out go (more ms rest _ _ d e o i further) =
    ap (λ q. made q out (λ y printed label. body_made w (rest ++ tail) y printed go)) e
    ∙ (λ j. unless_halted (i j) d.view (printed_with out (o j)) d.place (λ y printed label. body_made w (rest ++ tail) y printed go))
    ∙ passes_body w rest tail d.view x out go further

by_effect : {A : Type 0} (x : Result Done Stop) → ((d : Done) → x ≡ Ok d → A) → ((s : Stop) → x ≡ Err s → A) → A
by_effect (Ok d) f g = f d refl
by_effect (Err s) f g = g s refl

by_halt : {A : Type 0} (o : Option ℕ) → ((n : ℕ) → o ≡ Some n → A) → (o ≡ None → A) → A
by_halt (Some n) f g = f n refl
by_halt None f g = g refl

module _ (t : Target) (r : Routine) (seats : Seats) (base : ℕ) where
  pub still_self : (v z : View) → IsStill t r seats base v z v z
  still_self v z = record { old_reach = λ a. refl; new_reach = λ a. refl; old = λ a f. refl; new = λ a f k. refl; targets = λ l. refl }

  pub still_then : (v z a b x y : View) → IsStill t r seats base v z a b → IsStill t r seats base a b x y → IsStill t r seats base v z x y
  still_then v z a b x y p q = record {
    old_reach = λ n. q.old_reach n ∙ p.old_reach n;
    new_reach = λ n. q.new_reach n ∙ p.new_reach n;
    old = λ n f. q.old n (p.old_reach n ∙ f) ∙ p.old n f;
    new = λ n f k. q.new n (p.old_reach n ∙ f) k ∙ p.new n f k;
    targets = λ l. q.targets l ∙ p.targets l;
  }

  abbrev Alike : List (List Move) → List (List Move) → (Cell → Bool) → View → View → List ℕ → Type 0
  Alike = AreBodiesAlike t r seats base

  -- one transfer of the old body that is made, and what stands for it
  module _ (ms middle : List Move) (rest loads stores : List (List Move)) (later : Cell → Bool) (v z : View) (d : Done) (given : effect t.word ms v ≡ Ok d)
      (kept : IsKept t r seats base later loads middle stores v z d) (out : List ℕ) where
    abbrev printed : List ℕ
    printed = printed_with out d.output

    old_goes : (go : Rest) → body_made t.word (ms ∷ rest) v out go ≡ unless_halted d.halt d.view printed d.place (λ y o label. body_made t.word rest y o go)
    old_goes go = ap (λ q. made q out (λ y o label. body_made t.word rest y o go)) given

    new_goes : (tail : List (List Move)) (go : Rest)
        → body_made t.word ((loads ++ (middle ∷ stores)) ++ tail) z out go ≡ unless_halted d.halt kept.made.view printed kept.made.place (λ y o label. body_made t.word (stores ++ tail) y o go)
    new_goes tail go =
        ap (λ xs. body_made t.word xs z out go) (append_assoc loads (middle ∷ stores) tail)
        ∙ passes_body t.word loads (middle ∷ (stores ++ tail)) z kept.loaded out go kept.passes
        ∙ ap (λ q. made q out (λ y o label. body_made t.word (stores ++ tail) y o go)) kept.is
        ∙ (λ j. unless_halted (kept.halt j) kept.made.view (printed_with out (kept.output j)) kept.made.place (λ y o label. body_made t.word (stores ++ tail) y o go))

    stops_too : (further : List (List Move)) (end : Cell → Bool) (n : ℕ) → d.halt ≡ Some n → Alike (ms ∷ rest) ((loads ++ (middle ∷ stores)) ++ further) end v z out
    stops_too further end n e =
        both_stop printed n (λ go. old_goes go ∙ ap (λ h. unless_halted h d.view printed d.place (λ y o label. body_made t.word rest y o go)) e)
        (λ tail go.
        ap (λ xs. body_made t.word xs z out go) (append_assoc (loads ++ (middle ∷ stores)) further tail)
        ∙ new_goes (further ++ tail) go ∙ ap (λ h. unless_halted h kept.made.view printed kept.made.place (λ y o label. body_made t.word (stores ++ (further ++ tail)) y o go)) e)

    old_on : d.halt ≡ None → (go : Rest) → body_made t.word (ms ∷ rest) v out go ≡ body_made t.word rest d.view printed go
    old_on e go = old_goes go ∙ ap (λ h. unless_halted h d.view printed d.place (λ y o label. body_made t.word rest y o go)) e

    new_on : d.halt ≡ None → (further tail : List (List Move)) (go : Rest)
        → body_made t.word (((loads ++ (middle ∷ stores)) ++ further) ++ tail) z out go ≡ body_made t.word (further ++ tail) kept.after printed go
    new_on e further tail go =
        ap (λ xs. body_made t.word xs z out go) (append_assoc (loads ++ (middle ∷ stores)) further tail)
        ∙ new_goes (further ++ tail) go
        ∙ ap (λ h. unless_halted h kept.made.view printed kept.made.place (λ y o label. body_made t.word (stores ++ (further ++ tail)) y o go)) e
        ∙ passes_body t.word stores (further ++ tail) kept.made.view kept.after printed go kept.stored

    goes_on : (further : List (List Move)) (end : Cell → Bool) → d.halt ≡ None → Alike rest further end d.view kept.after printed
        → Alike (ms ∷ rest) ((loads ++ (middle ∷ stores)) ++ further) end v z out
    goes_on further end e (old_fails o f) = old_fails o (λ go. old_on e go ∙ f go)
    goes_on further end e (both_stop o n f g) = both_stop o n (λ go. old_on e go ∙ f go) (λ tail go. new_on e further tail go ∙ g tail go)
    goes_on further end e (both_go x y o f g h s) =
        both_go x y o (λ go. old_on e go ∙ f go) (λ tail go. new_on e further tail go ∙ g tail go) h (still_then v z d.view kept.after x y kept.still s)

  module _ (placed : IsPlaced t r base) (general : AreGeneral t seats) where
    kept_by : (ms : List Move) (new : List (List Move)) (before later : Cell → Bool) (v z : View) (d : Done) (c : IsColored t r seats ms new) → IsPlace t r seats ms ms before later
        → Holds t r seats base before v z → effect t.word ms v ≡ Ok d → IsKept t r seats base later c.loads c.middle c.stores v z d
    kept_by ms new before later v z d c place h given = transfer_keeps t r seats base ms ms c.middle before later c.loads c.stores c.middle c.parts v z d c.parts.renamed placed general place h given

    body_alike : (body new : List (List Move)) (before later : Cell → Bool) (v z : View) (out : List ℕ) → AreColored t r seats body new → ArePlaces t r seats body before later
        → Holds t r seats base before v z → Alike body new later v z out
    body_alike _ _ _ _ v z out no_transfer (no_place later) h = both_go v z out (λ go. refl) (λ tail go. refl) h (still_self v z)
    body_alike _ _ _ _ v z out (a_transfer ms new rest further c cs) (a_place _ _ before middle later place places) h =
        by_effect (effect t.word ms v)
        (λ d given.
        let kept = kept_by ms new before middle v z d c place h given in
        subst (λ xs. Alike (ms ∷ rest) (xs ++ further) later v z out) (sym c.is)
        (by_halt d.halt (stops_too ms c.middle rest c.loads c.stores middle v z d given kept out further later)
        (λ e. goes_on ms c.middle rest c.loads c.stores middle v z d given kept out further later e (body_alike rest further middle later d.view kept.after (printed_with out d.output) cs places kept.holds))))
        (λ s failed. old_fails out (λ go. ap (λ q. made q out (λ y o label. body_made t.word rest y o go)) failed))

pub body_keeps : BodyKeeps
body_keeps t r seats base body new before later v z out placed general colored places h = body_alike t r seats base placed general body new before later v z out colored places h
