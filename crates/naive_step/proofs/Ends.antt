-- What the end of a block does: the next block begins, or the block of a label.
use Rattle.std.proofs.Common.{◌≡◌, ◌≢◌, ℕ, zero, suc, ◌+◌, ◌^◌, ◌<◌, ◌⊎◌, inl, inr, List, [], ◌∷◌, ◌++◌, Option, Some, None, Result, Ok, Err, refl, sym, ap, ◌∙◌, subst, arith, true, false}
use Rattle.std.specs.Prelude.{slice_index}
use Rattle.behaviour.specs.Run.{AreBytes}
use Rattle.behaviour.specs.Steps.{Move as Step, Goes, Comes, Leads}
use Rattle.behaviour.proofs.Stepping.{leads_one, comes_one, comes_refl, comes_then_leads}
use Rattle.rtl_word.specs.declared.Rel.{Rel}
use Rattle.rtl_word.specs.Words.{word_rel}
use Rattle.rtl_tree.specs.declared.cells.Cell.TheVariants.{Hard, Temp, Pc}
use Rattle.rtl_tree.specs.declared.cells.Lab.TheVariants as label
use Rattle.rtl_tree.specs.Moves.{Move}
use Rattle.rtl_effect.specs.Views.{View}
use Rattle.rtl_effect.specs.Effects.{Done, effect, view_after}
use Rattle.rtl_norm_value.specs.Effect.{with_normal_jump}
use Rattle.md_shapes.specs.declared.patterns.Pattern.TheVariants as shape
use Rattle.md_shapes.specs.Shapes.{Frame as Fixed, shape_moves}
use Rattle.temp_machine.specs.Routines.{Exit, Falls, Jumps, Branches, Image, Target}
use Rattle.temp_machine.specs.Machine.{State, may_touch, made, unless_halted, printed_with, state_with, next_block, position, view_in, exit_made, routine_of}
use Rattle.temp_machine.specs.Live.{Place, Item, Transfer, End, item_at}
use Rattle.temp_machine.specs.Small.{Point, behind, first_point, entering, small_step}
use Rattle.naive_code.specs.Operations as code
use Rattle.md_filled.specs.Doing.{IsSameBut, DoesAs}
use Rattle.naive_run.specs.Standing.{DoesInTwo, EndsByFlag, One, Ends, shaped, with_label, on_two_to}
use Rattle.naive_step.proofs.Doing.{M}
use Rattle.naive_step.proofs.Words.{HoldsWords, words_in}
use Rattle.naive_step.proofs.Making.{Call, Fits, Shows, Inside, At, routine_in, step_is, step_from, goes_on}

-- the begin of a block, where all is as it was
pub record Opens (c d : Point) : Type 0 where
  pub temps : (n : ℕ) → d.view.cells (Temp n) ≡ c.view.cells (Temp n)
  pub regs : (n : ℕ) → d.view.cells (Hard n) ≡ c.view.cells (Hard n)
  pub bytes : (b : ℕ) → d.view.bytes b ≡ c.view.bytes b
  pub input : d.view.input ≡ c.view.input
  pub printed : d.printed ≡ c.printed

abbrev pub begin_of : ℕ → Place
begin_of n = record { block = n; at = 0 }

module _ (t : Target) (u : Image) (m : Fixed) (k : Call) (fits : Fits t u k) where
  -- the block with this number is begun
  pub record Opened (n : ℕ) (c : Point) : Type 0 where
    pub point : Point
    pub leads : Leads (M t u) c point
    pub inside : Inside t u k point
    pub at : At t u (begin_of n) point
    pub fact : Opens c point

  -- the state behind an end to which the machine comes from c, and whose transfer left a view
  entered : (c e : Point) (z : View) (out : List ℕ) (n : ℕ) → Comes (M t u) c e → Inside t u k c → small_step t u e ≡ Goes (first_point t u (state_with t u c.state z out n))
      → ((j : ℕ) → z.cells (Temp j) ≡ c.view.cells (Temp j)) → ((j : ℕ) → z.cells (Hard j) ≡ c.view.cells (Hard j)) → ((b : ℕ) → z.bytes b ≡ c.view.bytes b)
      → z.input ≡ c.view.input → out ≡ c.printed → Opened n c
  entered c e z out n to i goes temps regs bytes input printed = record {
    point = first_point t u (state_with t u c.state z out n);
    leads = comes_then_leads (M t u) c e _ to (leads_one (M t u) e _ goes);
    inside = record {
      function = i.function;
      base = i.base;
      callers = i.callers;
      shows = record {
        size = refl;
        reach = λ a. ap (λ f. may_touch t u (record { function = f; block = 0; base = c.state.top.base; temps = λ n. None }) c.state.callers a) i.function
            ∙ (ap (λ b. may_touch t u (record { function = k.function; block = 0; base = b; temps = λ n. None }) c.state.callers a) i.base
            ∙ ap (λ cs. may_touch t u (record { function = k.function; block = 0; base = k.base; temps = λ n. None }) cs a) i.callers);
        symbols = λ n. refl;
        targets = λ l. refl;
        counter = refl;
        input = refl;
        words = words_in t u (state_with t u c.state z out n) fits.size symbols words;
        fed = fed;
      };
    };
    at = record { block = refl; at = refl };
    fact = record { temps = temps; regs = regs; bytes = bytes; input = input; printed = printed };
  }
    where
      fed : AreBytes z.input
      fed = subst AreBytes (sym input) i.shows.fed

      symbols : (j : ℕ) → slice_index u.symbols j < 2 ^ t.word
      symbols j = subst (λ (x : ℕ). x < 2 ^ t.word) (i.shows.symbols j) (i.shows.words.symbols j)

      words : HoldsWords t u (state_with t u c.state z out n)
      words = record {
        registers = λ j v h. i.shows.words.cells (Hard j) v (sym (regs j) ∙ h);
        temps = λ j v h. i.shows.words.cells (Temp j) v (sym (temps j) ∙ h);
        bytes = λ b v h. i.shows.words.bytes b v (sym (bytes b) ∙ h);
        fed = fed;
      }

  pub falls : (c : Point) (p : Place) → Inside t u k c → At t u p c → Ends t.word m (routine_in t u k) code.Falls p → Opened (suc p.block) c
  falls c p i h ends =
      subst (λ b. Opened (suc b) c) h.block
      (entered c c c.view c.printed (suc c.state.top.block) (comes_refl (M t u) c) i (step_is t u k fits c p (End Falls) i h ends) (λ j. refl) (λ j. refl) (λ b. refl) refl refl)

  -- where a jump's transfer leads, by the place that it was found to have
  led : (c : Point) (q : Option ℕ) → ℕ
  led c q = next_block t u c.state q

  halted : (c : Point) (out : List ℕ) (h q : Option ℕ) (v : View) → h ≡ None
      → entering t u (unless_halted h v out q (λ z o l. Goes (state_with t u c.state z o (next_block t u c.state l)))) ≡ Goes (first_point t u (state_with t u c.state v out (next_block t u c.state q)))
  halted c out None q v e = refl
  halted c out (Some n) q v e = absurd (grind (arith, e))

  -- a transfer that only jumps, made at the end
  jumped : (c : Point) (wanted ms : List Move) (q : Option ℕ) → Inside t u k c
      → small_step t u c ≡ entering t u (made (effect t.word ms c.view) c.printed (λ z o l. Goes (state_with t u c.state z o (next_block t u c.state l))))
      → DoesAs t.word wanted ms → effect t.word wanted c.view ≡ Ok (record { view = view_after t.word wanted None c.view; place = q; output = None; halt = None })
      → ((j : ℕ) → (view_after t.word wanted None c.view).cells (Temp j) ≡ c.view.cells (Temp j)) → ((j : ℕ) → (view_after t.word wanted None c.view).cells (Hard j) ≡ c.view.cells (Hard j))
      → (view_after t.word wanted None c.view).input ≡ c.view.input
      → Opened (next_block t u c.state q) c
  jumped c wanted ms q i goes real does temps regs input =
      let d : Done = record { view = view_after t.word wanted None c.view; place = q; output = None; halt = None } in
      let e = real.does c.view d i.shows.words does in
      let like = e.2 in
      subst (λ l. Opened (next_block t u c.state l) c) like.place
      (entered c c e.0.view (printed_with c.printed e.0.output) (next_block t u c.state e.0.place) (comes_refl (M t u) c) i
      (goes ∙ ap (λ x. entering t u (made x c.printed (λ z o l. Goes (state_with t u c.state z o (next_block t u c.state l))))) e.1
      ∙ halted c (printed_with c.printed e.0.output) e.0.halt e.0.place e.0.view like.halt)
      (λ j. like.temps j ∙ temps j) (λ j. like.registers j ∙ regs j) like.bytes (like.input ∙ input) (ap (printed_with c.printed) like.output))

  -- the block of a label
  abbrev block_of : ℕ → ℕ
  block_of l = position (routine_in t u k).blocks l 0

  at_label : (c : Point) (l : ℕ) → Inside t u k c → Opened (next_block t u c.state (Some l)) c → Opened (block_of l) c
  at_label c l i o = subst (λ f. Opened (position (u.routines f).blocks l 0) c) i.function o

  pub jumps : (c : Point) (p : Place) (l : ℕ) → Inside t u k c → At t u p c → Ends t.word m (routine_in t u k) (code.Jumps l) p → Opened (block_of l) c
  jumps c p l i h (ms, item, real) =
      at_label c l i
      (jumped c (shape_moves m shape.Jump (with_label l)) (with_normal_jump t.word ms) (Some l) i (step_is t u k fits c p (End (Jumps ms)) i h item) real
      (rw (i.shows.targets (label.Block l)) refl) (λ j. refl) (λ j. refl) refl)

  -- a branch where the relation doesn't hold, and where it does
  pub branch_on : (c : Point) (p : Place) (r : Rel) (a b l x y : ℕ) → Inside t u k c → At t u p c → c.view.cells (Temp a) ≡ Some x → c.view.cells (Temp b) ≡ Some y → word_rel t.word r x y ≡ 0
      → Ends t.word m (routine_in t u k) (code.Branches r a b l) p → Opened (suc p.block) c
  branch_on c p r a b l x y i h holds_a holds_b off (ms, item, real) =
      subst (λ n. Opened (suc n) c) h.block
      (jumped c (shape_moves m (shape.Branch r) (on_two_to a b l)) (with_normal_jump t.word ms) None i (step_is t u k fits c p (End (Branches ms)) i h item) real
      (rw (holds_a, holds_b, off, i.shows.counter) refl) (λ j. refl) (λ j. refl) refl)

  pub branch_off : (c : Point) (p : Place) (r : Rel) (a b l x y : ℕ) → Inside t u k c → At t u p c → c.view.cells (Temp a) ≡ Some x → c.view.cells (Temp b) ≡ Some y → word_rel t.word r x y ≡ 1
      → Ends t.word m (routine_in t u k) (code.Branches r a b l) p → Opened (block_of l) c
  branch_off c p r a b l x y i h holds_a holds_b on (ms, item, real) =
      at_label c l i
      (jumped c (shape_moves m (shape.Branch r) (on_two_to a b l)) (with_normal_jump t.word ms) (Some l) i (step_is t u k fits c p (End (Branches ms)) i h item) real
      (rw (holds_a, holds_b, on, i.shows.targets (label.Block l)) refl) (λ j. refl) (λ j. refl) refl)

  -- by a flag: a comparison is made, and then a jump that tests it
  flag_jumps : (c : Point) (p r : Place) (wanted compares jump : List Move) (q : Option ℕ) → Inside t u k c → At t u p c → item_at (routine_in t u k) p ≡ Some (Transfer compares)
      → r ≡ record { block = p.block; at = suc p.at } → item_at (routine_in t u k) r ≡ Some (End (Branches jump)) → DoesInTwo t.word wanted compares (with_normal_jump t.word jump)
      → effect t.word wanted c.view ≡ Ok (record { view = view_after t.word wanted None c.view; place = q; output = None; halt = None })
      → ((j : ℕ) → (view_after t.word wanted None c.view).cells (Temp j) ≡ c.view.cells (Temp j)) → ((j : ℕ) → (view_after t.word wanted None c.view).cells (Hard j) ≡ c.view.cells (Hard j))
      → (view_after t.word wanted None c.view).input ≡ c.view.input
      → Opened (next_block t u c.state q) c
  flag_jumps c p r wanted compares jump q i h item behind_p end real does temps regs input = at_end (real.does c.view _ i.shows.words does)
    where
      d : Done
      d = record { view = view_after t.word wanted None c.view; place = q; output = None; halt = None }

      at_end : (e f : Done) × (effect t.word compares c.view ≡ Ok e) × (effect t.word (with_normal_jump t.word jump) e.view ≡ Ok f) × (e.output ≡ None) × (e.halt ≡ None) × IsSameBut wanted d f
          → Opened (next_block t u c.state q) c
      at_end (e, f, first, second, quiet, no_halt, like) =
          let there = behind t u c e.view (printed_with c.printed e.output) in
          let here : At t u r there = subst (λ x. At t u x there) (sym behind_p) (record { block = h.block; at = ap suc h.at }) in
          let one : small_step t u c ≡ Goes there =
          step_is t u k fits c p (Transfer compares) i h item
          ∙ (ap (λ x. made x c.printed (λ v out label. Goes (behind t u c v out))) first ∙ goes_on t u k fits c (printed_with c.printed e.output) e.halt e.place e.view no_halt) in
          let out_is : printed_with c.printed e.output ≡ c.printed = ap (printed_with c.printed) quiet in
          subst (λ l. Opened (next_block t u c.state l) c) like.place
          (entered c there f.view (printed_with (printed_with c.printed e.output) f.output) (next_block t u c.state f.place) (comes_one (M t u) c there one) i
          (step_from t u k fits there r (End (Branches jump)) i.function i.callers here end
          ∙ (ap (λ x. entering t u (made x (printed_with c.printed e.output) (λ z o l. Goes (state_with t u c.state z o (next_block t u c.state l))))) second
          ∙ halted c (printed_with (printed_with c.printed e.output) f.output) f.halt f.place f.view like.halt))
          (λ j. like.temps j ∙ temps j) (λ j. like.registers j ∙ regs j) like.bytes (like.input ∙ input)
          (ap (printed_with (printed_with c.printed e.output)) like.output ∙ out_is))

  -- where the open block is closed, the operation leads to the place behind it, or to a label's block
  pub closed_at : (stop : code.Stop) (l : ℕ) (p next : Place) → One t.word m (routine_in t u k) (code.Close stop l) p next → next ≡ begin_of (suc p.block)
  closed_at stop l p next (q, closed, found, is) = is

  pub found_at : (stop : code.Stop) (l : ℕ) (p next : Place) → One t.word m (routine_in t u k) (code.Close stop l) p next → block_of l ≡ suc p.block
  found_at stop l p next (q, closed, found, is) = found

  pub close_falls : (l : ℕ) (p next : Place) (c : Point) → Inside t u k c → At t u p c → One t.word m (routine_in t u k) (code.Close code.Falls l) p next → Opened (suc p.block) c
  close_falls l p next c i h (q, (ends, same), found, is) = falls c p i h ends

  pub close_jumps : (to l : ℕ) (p next : Place) (c : Point) → Inside t u k c → At t u p c → One t.word m (routine_in t u k) (code.Close (code.Jumps to) l) p next → Opened (block_of to) c
  close_jumps to l p next c i h (q, (ends, same), found, is) = jumps c p to i h ends

  pub close_branch_on : (r : Rel) (a b to l x y : ℕ) (p next : Place) (c : Point) → Inside t u k c → At t u p c → c.view.cells (Temp a) ≡ Some x → c.view.cells (Temp b) ≡ Some y
      → word_rel t.word r x y ≡ 0 → One t.word m (routine_in t u k) (code.Close (code.Branches r a b to) l) p next → Opened (suc p.block) c
  close_branch_on r a b to l x y p next c i h holds_a holds_b off (q, inl (ends, same), found, is) = branch_on c p r a b to x y i h holds_a holds_b off ends
  close_branch_on r a b to l x y p next c i h holds_a holds_b off (q, inr z, found, is) =
      subst (λ n. Opened (suc n) c) h.block
      (flag_jumps c p q (shape_moves m (shape.Branch r) (on_two_to a b to)) z.compares z.jumps None i h z.at z.behind z.end z.does
      (rw (holds_a, holds_b, off, i.shows.counter) refl) (λ j. refl) (λ j. refl) refl)

  pub close_branch_off : (r : Rel) (a b to l x y : ℕ) (p next : Place) (c : Point) → Inside t u k c → At t u p c → c.view.cells (Temp a) ≡ Some x → c.view.cells (Temp b) ≡ Some y
      → word_rel t.word r x y ≡ 1 → One t.word m (routine_in t u k) (code.Close (code.Branches r a b to) l) p next → Opened (block_of to) c
  close_branch_off r a b to l x y p next c i h holds_a holds_b on (q, inl (ends, same), found, is) = branch_off c p r a b to x y i h holds_a holds_b on ends
  close_branch_off r a b to l x y p next c i h holds_a holds_b on (q, inr z, found, is) =
      at_label c to i
      (flag_jumps c p q (shape_moves m (shape.Branch r) (on_two_to a b to)) z.compares z.jumps (Some to) i h z.at z.behind z.end z.does
      (rw (holds_a, holds_b, on, i.shows.targets (label.Block to)) refl) (λ j. refl) (λ j. refl) refl)
