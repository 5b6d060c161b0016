-- What a transfer does at a point of a run inside one call.
use Rattle.std.proofs.Common.{◌≡◌, ℕ, zero, suc, ◌+◌, ◌≤◌, List, [], ◌∷◌, ◌++◌, Option, Some, None, Result, Ok, Err, refl, sym, ap, ◌∙◌, subst, arith, true, false}
use Rattle.std.specs.Prelude.{Bool, nat_le, slice_index, All}
use Rattle.behaviour.specs.Run.{AreBytes}
use Rattle.behaviour.specs.Steps.{Move as Step, Goes, Comes, Leads}
use Rattle.behaviour.proofs.Stepping.{comes_one, leads_one}
use Rattle.rtl_word.specs.Words.{IsWordSize}
use Rattle.rtl_tree.specs.declared.cells.Cell.TheVariants.{Hard, Temp, Pc, Input}
use Rattle.rtl_tree.specs.declared.cells.Lab.{Lab}
use Rattle.rtl_tree.specs.Moves.{Move}
use Rattle.rtl_norm.specs.Transfers.{IsMoveFitting}
use Rattle.rtl_effect.specs.Views.{View}
use Rattle.rtl_effect.specs.Effects.{Done, effect, view_after, next_in, Patch}
use Rattle.rtl_norm_value.specs.Kept.{IsWordView}
use Rattle.rtl_norm_value.proofs.WordViews.{words_are_kept}
use Rattle.md_filled.specs.Doing.{DoesAs}
use Rattle.temp_machine.specs.Routines.{Image, Target, Routine, word_bytes}
use Rattle.temp_machine.specs.Machine.{State, Active, Waiting, made, unless_halted, printed_with, fits_stack, if_it_fits, may_touch, jump_target, taken_by_callers, routine_of, view_in, state_with, exit_made}
use Rattle.temp_machine.specs.Live.{Place, Item, Transfer, End, item_at}
use Rattle.temp_machine.specs.Small.{Point, behind, first_point, item_made, small_step, tested_at, entering}
use Rattle.naive_step.proofs.Doing.{M}
use Rattle.naive_step.proofs.Words.{after_effect, words_alike}

-- ---- calls

-- a call: its function, the address of its frame, and those that wait for it
pub record Call : Type 0 where
  pub function : ℕ
  pub base : ℕ
  pub callers : List Waiting

module _ (t : Target) (u : Image) where
  abbrev pub routine_in : Call → Routine
  routine_in k = u.routines k.function

  abbrev pub active : Call → Active
  active k = record { function = k.function; block = 0; base = k.base; temps = λ n. None }

  -- words have a size of words, and the stack suffices for all active calls
  pub record Fits (k : Call) : Type 0 where
    pub size : IsWordSize t.word
    pub fits : nat_le ((routine_in k).frame + word_bytes t + taken_by_callers t u k.callers) t.stack ≡ true

  -- what the view of each point of a call shows
  pub record Shows (k : Call) (v : View) : Type 0 where
    pub size : v.size ≡ t.memory
    pub reach : (a : ℕ) → v.reach a ≡ may_touch t u (active k) k.callers a
    pub symbols : (n : ℕ) → v.symbols n ≡ slice_index u.symbols n
    pub targets : (l : Lab) → v.targets l ≡ jump_target l
    pub counter : v.cells Pc ≡ None
    pub input : v.cells Input ≡ Some (next_in t.word v.input)
    pub words : IsWordView t.word v
    pub fed : AreBytes v.input

  pub record Inside (k : Call) (c : Point) : Type 0 where
    pub function : c.state.top.function ≡ k.function
    pub base : c.state.top.base ≡ k.base
    pub callers : c.state.callers ≡ k.callers
    pub shows : Shows k c.view

  pub record At (p : Place) (c : Point) : Type 0 where
    pub block : c.state.top.block ≡ p.block
    pub at : c.at ≡ p.at

  shows_after : (k : Call) (ms : List Move) (q : Option Patch) (v z : View) → z ≡ view_after t.word ms q v → Shows k v → IsWordView t.word z → AreBytes z.input → Shows k z
  shows_after k ms q v z is s =
      subst (λ y. IsWordView t.word y → AreBytes y.input → Shows k y) (sym is)
      (λ words fed. record { size = s.size; reach = s.reach; symbols = s.symbols; targets = s.targets; counter = s.counter; input = refl; words = words; fed = fed })

  place_of : (p : Place) (c : Point) → At p c → record { block = c.state.top.block; at = c.at } ≡ p
  place_of p c h = ap (λ b. record { block = b; at = c.at }) h.block ∙ ap (λ a. record { block = p.block; at = a }) h.at

  untested : (n : ℕ) (s : State) (out : List ℕ) (x : Step Point) → fits_stack t u s ≡ true → tested_at t u n s out x ≡ x
  untested zero s out x f = ap (λ b. if_it_fits b out x) f
  untested (suc n) s out x f = refl

  module _ (k : Call) (fits : Fits k) where
    fits_at : (s : State) → s.top.function ≡ k.function → s.callers ≡ k.callers → fits_stack t u s ≡ true
    fits_at s function callers =
        ap (λ f. nat_le ((u.routines f).frame + word_bytes t + taken_by_callers t u s.callers) t.stack) function
        ∙ ap (λ cs. nat_le ((routine_in k).frame + word_bytes t + taken_by_callers t u cs) t.stack) callers ∙ fits.fits

    -- the step from a point of the call, by what stands at its place
    pub step_from : (c : Point) (p : Place) (x : Item) → c.state.top.function ≡ k.function → c.state.callers ≡ k.callers → At p c → item_at (routine_in k) p ≡ Some x
        → small_step t u c ≡ item_made t u (Some x) c
    step_from c p x function callers h e =
        untested c.at c.state c.printed _ (fits_at c.state function callers)
        ∙ ap (λ o. item_made t u o c) (ap (λ f. item_at (u.routines f) (record { block = c.state.top.block; at = c.at })) function
        ∙ ap (item_at (routine_in k)) (place_of p c h) ∙ e)

    pub step_is : (c : Point) (p : Place) (x : Item) → Inside k c → At p c → item_at (routine_in k) p ≡ Some x → small_step t u c ≡ item_made t u (Some x) c
    step_is c p x i h e = step_from c p x i.function i.callers h e

    abbrev pub next : Place → Place
    next p = record { block = p.block; at = suc p.at }

    -- where a transfer leads that does what a shape does
    pub record Made (c : Point) (p : Place) (d : Done) : Type 0 where
      pub point : Point
      pub comes : Comes (M t u) c point
      pub inside : Inside k point
      pub at : At (next p) point
      pub temps : (n : ℕ) → point.view.cells (Temp n) ≡ d.view.cells (Temp n)
      pub regs : (n : ℕ) → point.view.cells (Hard n) ≡ d.view.cells (Hard n)
      pub bytes : (a : ℕ) → point.view.bytes a ≡ d.view.bytes a
      pub input : point.view.input ≡ d.view.input
      pub printed : point.printed ≡ printed_with c.printed d.output

    pub goes_on : (c : Point) (out : List ℕ) (h q : Option ℕ) (v : View) → h ≡ None
        → unless_halted h v out q (λ v out label. Goes (behind t u c v out)) ≡ Goes (behind t u c v out)
    goes_on c out None q v e = refl
    goes_on c out (Some n) q v e = absurd (grind (arith, e))

    pub make : (c : Point) (p : Place) (wanted ms : List Move) (d : Done) → Inside k c → At p c → item_at (routine_in k) p ≡ Some (Transfer ms) → All (IsMoveFitting t.word) wanted
        → DoesAs t.word wanted ms → effect t.word wanted c.view ≡ Ok d → d.halt ≡ None → Made c p d
    make c p wanted ms d i h item numbers real is no_halt =
        let seen = i.shows.words in
        let e = real.does c.view d seen is in
        let like = e.2 in
        let left = after_effect t.word ms c.view e.0 e.1 in
        let kept = words_are_kept t.word wanted c.view d fits.size seen i.shows.fed numbers is in
        let there = behind t u c e.0.view (printed_with c.printed e.0.output) in
        let one : small_step t u c ≡ Goes there =
        step_is c p (Transfer ms) i h item
        ∙ (ap (λ x. made x c.printed (λ v out label. Goes (behind t u c v out))) e.1 ∙ goes_on c (printed_with c.printed e.0.output) e.0.halt e.0.place e.0.view (like.halt ∙ no_halt)) in
        record {
          point = there;
          comes = comes_one (M t u) c there one;
          inside = record {
            function = i.function;
            base = i.base;
            callers = i.callers;
            shows = shows_after k ms left.0 c.view e.0.view left.1 i.shows (words_alike t.word wanted ms c.view d e.0 fits.size seen e.1 like kept.0 kept.1) (subst AreBytes (sym like.input) kept.1);
          };
          at = record { block = h.block; at = ap suc h.at };
          temps = like.temps;
          regs = like.registers;
          bytes = like.bytes;
          input = like.input;
          printed = ap (printed_with c.printed) like.output;
        }
