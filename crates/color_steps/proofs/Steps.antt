-- A step of the old code and one of the coloured code keep states together.
use Rattle.std.proofs.Common.{◌≡◌, ℕ, suc, ◌+◌, ◌-◌, ◌*◌, ◌/◌, ◌<◌, ◌≤◌, ◌==◌, Bool, true, false, cond, List, [], ◌∷◌, ◌++◌, length, Option, Some, None, Result, Ok, Err, refl, sym, ap, ◌∙◌, subst, arith, inl, inr}
use Rattle.std.specs.Prelude.{nat_le, slice_get, ◌⊎◌, Contains, MatchOption, IsSomeAnd}
use Rattle.std.proofs.lemmas.Bool.{leb-true}
use Rattle.std.proofs.lemmas.Slice.Zip.{AllZip-left}
use Rattle.std.proofs.lemmas.List.Elements.{length_all_zip}
use Rattle.rtl_tree.specs.declared.cells.Cell.{Cell}
use Rattle.rtl_tree.specs.declared.cells.Cell.TheVariants.{Hard, Temp, Pc}
use Rattle.rtl_tree.specs.declared.cells.Lab.TheVariants.{Block}
use Rattle.rtl_tree.specs.Moves.{Move}
use Rattle.behaviour.specs.Behaviour.{Wild as WildRun}
use Rattle.behaviour.specs.Steps.{Move as Step, Goes, Stops, Fails, MovesAlike}
use Rattle.behaviour.specs.Run.{AreBytes}
use Rattle.rtl_effect.specs.Views.{Stop, View, Gone}
use Rattle.rtl_effect.specs.Effects.{Done, effect, assigned, went}
use Rattle.rtl_effect.specs.Agree.{Tells}
use Rattle.rtl_norm_value.specs.Effect.{with_normal_jump}
use Rattle.temp_machine.specs.Routines.{Exit, Falls, Jumps, Branches, Calls, Returns, BasicBlock, Routine, word_bytes, pushed}
use Rattle.temp_machine.specs.Machine.{Waiting, State, state_with, next_block, position, callee_of, made, unless_halted, printed_with, body_made, exit_made, block_made, called, entered, if_it_fits, taken_by, taken_by_callers, fits_stack, unset_between, step}
use Rattle.temp_machine.specs.Cells.{has_temporaries}
use Rattle.temp_machine.specs.Live.{End, item_at, item_of}
use Rattle.temp_machine.specs.Flow.{label_by, label_of, positions_by, successors, successors_at, successors_by}
use Rattle.color_spilling.specs.Passing.{Passes, over, more, home_address}
use Rattle.color_spilling.proofs.Memory.{and_right, inside_low, word_same}
use Rattle.color_spilling.proofs.Steps.{by_bytes}
use Rattle.color_transfer.specs.Colored.{AreColoredParts}
use Rattle.color_transfer.specs.Code.{IsColoredExit, falls, jumps, branches, calls, returns, IsColoredBlock}
use Rattle.color_holding.specs.Holding.{where_is, Holds, IsStill}
use Rattle.color_holding.specs.Laws.{IsKept, AreBodiesAlike, old_fails, both_stop, both_go}
use Rattle.color_table.proofs.Blocks.{end_of}
use Rattle.color_steps.proofs.Tables.{live_at, IsJumpPlace, IsEndPlace, IsTabled}
use Rattle.color_jumps.proofs.Renamed.{jump_is_renamed}
use Rattle.color_holding.proofs.Transfers.{transfer_keeps}
use Rattle.color_holding.proofs.Bodies.{body_keeps}
use Rattle.color_steps.proofs.Flow.{place_went, label_leads, jump_leads}
use Rattle.color_steps.proofs.Frames.{Job, call, wait, routine, Stands, live_in, framed, Waits, Chain, link, pushed_small, chain_room, chain_low, chain_same, chain_kept, homes_high}
use Rattle.color_steps.proofs.States.{Content, state, content_of, words_of, Begins, Related, related, fails, weaker, old_view, new_view, placed, begin_holds, Still, callers_kept, goes_on}
use Rattle.color_steps.proofs.Ends.{not_free, goes_back, cut, cut_above, enters}

-- transfers that are made one after the other lead to the view behind them
passes_made : (w : ℕ) (xs : List (List Move)) (z x : View) (out : List ℕ) (go : View → List ℕ → Step State) → Passes w xs z x → body_made w xs z out go ≡ go x out
passes_made w xs z x out go (over z') = refl
passes_made w xs z x out go (more ms rest z' x' d e o h p) =
    ap (λ r. made r out (λ v q l. body_made w rest v q go)) e
    ∙ (λ i. unless_halted (h i) d.view (printed_with out (o i)) d.place (λ v q l. body_made w rest v q go))
    ∙ passes_made w rest d.view x out go p

none_passes : (w : ℕ) (z x : View) → Passes w [] z x → x ≡ z
none_passes w z x (over z') = refl

fits_alike : (R : State → State → Type 0) (b b' : Bool) (out out' : List ℕ) (x y : Step State) → b' ≡ b → (b ≡ true → MovesAlike R x y) → MovesAlike R (if_it_fits b out x) (if_it_fits b' out' y)
fits_alike R true b' out out' x y e f = subst (λ c. MovesAlike R x (if_it_fits c out' y)) (sym e) (f refl)
fits_alike R false b' out out' x y e f = tt

pub fails_anyway : (b : Bool) (out : List ℕ) → if_it_fits {A = State} b out (Fails out WildRun) ≡ Fails out WildRun
fails_anyway true out = refl
fails_anyway false out = refl

positions_kept : (Q : BasicBlock → BasicBlock → Type 0) → ((b c : BasicBlock) → Q b c → c.label ≡ b.label) → (bs cs : List BasicBlock)
    → ((k : ℕ) → MatchOption (slice_get bs k) (Unit {0}) (λ b. IsSomeAnd (slice_get cs k) (Q b))) → length bs ≡ length cs → (l k : ℕ) → position cs l k ≡ position bs l k
positions_kept Q same [] [] h e l k = refl
positions_kept Q same [] (c ∷ cs) h e l k = absurd (omega (arith, e))
positions_kept Q same (b ∷ bs) [] h e l k = absurd (omega (arith, e))
positions_kept Q same (b ∷ bs) (c ∷ cs) h e l k =
    let rest = positions_kept Q same bs cs (λ n. h (suc n)) (omega (arith, e)) l (suc k) in
    let label = same b c (h 0) in
    λ i. cond (label i == l) k (rest i)

still_trans : (t : Rattle.temp_machine.specs.Routines.Target) (r : Routine) (seats : Rattle.color_code.specs.Colors.Seats) (base : ℕ) (v z x y u o : View)
    → IsStill t r seats base v z x y → IsStill t r seats base x y u o → IsStill t r seats base v z u o
still_trans t r seats base v z x y u o a b = record {
  old_reach = λ n. b.old_reach n ∙ a.old_reach n;
  new_reach = λ n. b.new_reach n ∙ a.new_reach n;
  old = λ n e. b.old n (a.old_reach n ∙ e) ∙ a.old n e;
  new = λ n e h. b.new n (a.old_reach n ∙ e) h ∙ a.new n e h;
  targets = λ l. b.targets l ∙ a.targets l;
}

module _ (j : Job) where
  abbrev Alike : Step State → Step State → Type 0
  Alike x y = MovesAlike (Related j) x y

  -- what is taken of the stack by the same calls
  same_taken : (f : ℕ) (n n' : ℕ) → n' ≡ n → (j.new.routines f).frame + word_bytes j.t + n' ≡ (j.old.routines f).frame + word_bytes j.t + n
  same_taken f n n' e = let fr = (j.is.colored.routines f).frame in λ i. fr i + word_bytes j.t + e i

  module _ (f k base : ℕ) (cs ds : List Waiting) (c d : Content) (out : List ℕ) (b : Begins j f k base cs ds c d)
      (room : taken_by j.t j.old (call f k base c.temps) + taken_by_callers j.t j.old cs ≤ j.t.stack) where
    abbrev s : State
    s = state f k base cs c out

    abbrev r : State
    r = state f k base ds d out

    abbrev code : Routine
    code = routine j f

    abbrev table : ℕ → ℕ → Cell → Bool
    table block at = live_at j.t (routine j f) (j.seats f) (j.live f) block at

    abbrev Held : (Cell → Bool) → View → View → Type 0
    Held live x y = Holds j.t (routine j f) (j.seats f) base live x y

    abbrev Stays : View → View → Type 0
    Stays x y = Still j f k base cs ds c d out b room x y

    tabled : IsTabled j.t code (j.seats f) (j.live f)
    tabled = j.is.tabled f b.stands

    next_same : (q : Option ℕ) → next_block j.t j.new r q ≡ next_block j.t j.old s q
    next_same None = refl
    next_same (Some l) =
        let blocks = (j.is.colored.routines f).blocks in
        positions_kept (IsColoredBlock j.t code (j.seats f)) (λ x y q. q.label) code.blocks (j.new.routines f).blocks (AllZip-left _ _ _ blocks) (length_all_zip _ _ _ blocks) l 0

    on_at : (x y : View) (o : List ℕ) (next : ℕ) → Held (live_in j f next) x y → Stays x y → Related j (state_with j.t j.old s x o next) (state_with j.t j.new r y o next)
    on_at x y o next h still = related f next base cs ds (content_of x) (content_of y) o (goes_on j f k base cs ds c d out b room next x y h still)

    on_by : (x y : View) (o : List ℕ) (q : Option ℕ) → Held (live_in j f (next_block j.t j.old s q)) x y → Stays x y
        → Related j (state_with j.t j.old s x o (next_block j.t j.old s q)) (state_with j.t j.new r y o (next_block j.t j.new r q))
    on_by x y o q h still = subst (λ n. Related j (state_with j.t j.old s x o (next_block j.t j.old s q)) (state_with j.t j.new r y o n)) (sym (next_same q)) (on_at x y o (next_block j.t j.old s q) h still)

    abbrev go_old : View → List ℕ → Option ℕ → Step State
    go_old z p q = Goes (state_with j.t j.old s z p (next_block j.t j.old s q))

    abbrev go_new : View → List ℕ → Option ℕ → Step State
    go_new z p q = Goes (state_with j.t j.new r z p (next_block j.t j.new r q))

    done_alike : (halt : Option ℕ) (u o : View) (p : List ℕ) (q : Option ℕ) → (halt ≡ None → Held (live_in j f (next_block j.t j.old s q)) u o) → Stays u o → Alike (unless_halted halt u p q go_old) (unless_halted halt o p q go_new)
    done_alike None u o p q h still = on_by u o p q (h refl) still
    done_alike (Some n) u o p q h still = (refl, refl)

    -- a transfer that ends a block
    module _ (b0 : BasicBlock) (ms new : List Move) (loads : List (List Move)) (parts : AreColoredParts j.t code (j.seats f) ms loads new []) (at : IsJumpPlace j.t code (j.seats f) (j.live f) k b0 ms)
        (x y : View) (o : List ℕ) (h : Held (table k (length b0.body)) x y) (still : Stays x y)
        (leads : (q : Option ℕ) → went j.t.word (assigned (with_normal_jump j.t.word ms) Pc) x ≡ Ok q → Contains (successors j.t.word code k) (next_block j.t j.old s q)) where
      abbrev fin : View → List ℕ → Step State
      fin z p = made (effect j.t.word (with_normal_jump j.t.word new) z) p go_new

      jump_done : (dn : Done) → effect j.t.word (with_normal_jump j.t.word ms) x ≡ Ok dn → Alike (made (Ok dn) o go_old) (body_made j.t.word loads y o fin)
      jump_done dn e =
          subst (λ m. Alike (made (Ok dn) o go_old) m)
          (sym (passes_made j.t.word loads y kept.loaded o fin kept.passes ∙ ap (λ m. made m o go_new) kept.is ∙ (λ i. unless_halted (kept.halt i) kept.made.view (printed_with o (kept.output i)) (kept.place i) go_new)))
          (done_alike dn.halt dn.view kept.made.view (printed_with o dn.output) dn.place (λ q. held_on) (still_trans j.t code (j.seats f) base _ _ x y dn.view kept.made.view still still_on))
        where
          kept : IsKept j.t code (j.seats f) base at.later loads (with_normal_jump j.t.word new) [] x y dn
          kept =
              transfer_keeps j.t code (j.seats f) base ms (with_normal_jump j.t.word ms) (with_normal_jump j.t.word new) (table k (length b0.body)) at.later loads [] new parts x y dn
              (ap (with_normal_jump j.t.word) parts.renamed ∙ jump_is_renamed j.t.word parts.register ms) (placed j f k base cs ds c d out b room) tabled.general at.place h e

          behind : kept.after ≡ kept.made.view
          behind = none_passes j.t.word kept.made.view kept.after kept.stored

          held_on : Held (live_in j f (next_block j.t j.old s dn.place)) dn.view kept.made.view
          held_on =
              weaker j f base _ at.later dn.view kept.made.view (λ e' on. at.onward (next_block j.t j.old s dn.place) e' (leads dn.place (place_went j.t.word (with_normal_jump j.t.word ms) x dn e)) on)
              (subst (λ n. Held at.later dn.view n) behind kept.holds)

          still_on : IsStill j.t code (j.seats f) base x y dn.view kept.made.view
          still_on = subst (λ n. IsStill j.t code (j.seats f) base x y dn.view n) behind kept.still

      jump_by : (m : Result Done Stop) → effect j.t.word (with_normal_jump j.t.word ms) x ≡ m → Alike (made m o go_old) (body_made j.t.word loads y o fin)
      jump_by (Ok dn) e = jump_done dn e
      jump_by (Err stop) e = tt

      jump_alike : Alike (made (effect j.t.word (with_normal_jump j.t.word ms) x) o go_old) (body_made j.t.word loads y o fin)
      jump_alike = jump_by (effect j.t.word (with_normal_jump j.t.word ms) x) refl

    -- a callee is entered
    module _ (g : ℕ) (x y : View) (o : List ℕ) (live : Cell → Bool) (h : Held live x y) (still : Stays x y) (over_call : (i : ℕ) → live_in j f (suc k) (Temp i) ≡ true → (live (Temp i) ≡ true) × (j.seats f i ≡ None))
        (outgoing : word_bytes j.t * (routine j g).params + word_bytes j.t ≤ code.first_home)
        (fit : taken_by j.t j.old (call g 0 (base - ((routine j g).frame + pushed j.t)) (λ n. None)) + (taken_by j.t j.old (call f (suc k) base (λ n. x.cells (Temp n))) + taken_by_callers j.t j.old cs) ≤ j.t.stack) where
      abbrev callers : List Waiting
      callers = wait f (suc k) base (λ n. x.cells (Temp n)) (λ n. x.cells (Hard n)) ∷ cs

      abbrev new_callers : List Waiting
      new_callers = wait f (suc k) base (λ n. y.cells (Temp n)) (λ n. y.cells (Hard n)) ∷ ds

      abbrev callee : State
      callee = entered j.t j.old g callers base x.bytes x.input o

      abbrev new_callee : ℕ → State
      new_callee size =
          state g 0 (base - (size + pushed j.t)) new_callers
          (record { regs = λ n. cond (n == j.t.sp) (Some (base - (size + pushed j.t))) None; temps = λ n. None; flags = λ n. Gone; bytes = unset_between (base - (size + pushed j.t)) base y.bytes; input = y.input }) o

      fits_below : (routine j g).frame + pushed j.t ≤ base
      fits_below = let q = chain_room j c.bytes d.bytes _ _ cs ds b.chain in let p = pushed_small j in let m = j.is.image.room in omega (arith, q, p, fit, m)

      base_low : base ≤ j.t.memory
      base_low = let l = chain_low j c.bytes d.bytes _ _ cs ds b.chain in omega (arith, l)

      module _ (stands : Stands j g) where
        abbrev sliced : (ℕ → Option ℕ) → ℕ → Option ℕ
        sliced m = cut j g base stands fits_below b.aligned base_low x.bytes y.bytes x.input y.input m

        above : (m : ℕ → Option ℕ) (a : ℕ) → base ≤ a → sliced m a ≡ m a
        above m a l = cut_above j g base stands fits_below b.aligned base_low x.bytes y.bytes x.input y.input m a l

        waits : Waits j (sliced x.bytes) (sliced y.bytes) f (suc k) base (λ n. x.cells (Temp n)) (λ n. y.cells (Temp n))
        waits = record {
          stands = b.stands;
          seated = λ i e. (over_call i e).1;
          homes = λ i e.
              subst (Tells (x.cells (Temp i))) (word_same y.bytes (sliced y.bytes) (home_address j.t code base i) (word_bytes j.t) (λ a p q. sym (above y.bytes a (omega (arith, p)))))
              (subst (λ w. Tells (x.cells (Temp i)) (where_is j.t code (j.seats f) base w i y)) ((over_call i e).1) (h.temps i ((over_call i e).0)));
          blank = λ a e. above x.bytes a (let l = inside_low _ _ a (and_right (has_temporaries code) _ e) in omega (arith, l)) ∙ h.blank a e;
          aligned = b.aligned;
          words = λ i n e. h.words.cells (Temp i) n e;
          new_words = λ i n e. h.ready.words.cells (Temp i) n e;
        }

        chain : Chain j (sliced x.bytes) (sliced y.bytes) (routine j g).params base callers new_callers
        chain =
            link (routine j g).params f (suc k) base (λ n. x.cells (Temp n)) (λ n. y.cells (Temp n)) (λ n. x.cells (Hard n)) (λ n. y.cells (Hard n)) cs ds waits outgoing
            (chain_kept j x.bytes y.bytes (sliced x.bytes) (sliced y.bytes) _ _ cs ds (callers_kept j f k base cs ds c d out b room x y still)
            (λ a i. let l = homes_high j c.bytes d.bytes _ _ cs ds b.chain a i in (above x.bytes a (omega (arith, l)), above y.bytes a (omega (arith, l)))))

        begun : Related j callee (new_callee (routine j g).frame)
        begun =
            related g 0 _ callers new_callers _ _ o
            (enters j g base stands fits_below b.aligned base_low x.bytes y.bytes x.input y.input callers new_callers chain h.land.bytes h.input (subst AreBytes (sym h.input) h.ready.bytes) h.ready.bytes h.words.bytes h.ready.words.bytes)

      goes_down : (bs : List BasicBlock) → (routine j g).blocks ≡ bs → Related j callee (entered j.t j.new g new_callers base y.bytes y.input o)
      goes_down [] e =
          fails callee (entered j.t j.new g new_callers base y.bytes y.input o)
          ((λ i. if_it_fits (fits_stack j.t j.old callee) o (block_made j.t j.old (slice_get (e i) 0) callee)) ∙ fails_anyway (fits_stack j.t j.old callee) o) refl
      goes_down (x0 ∷ bs) e = subst (λ size. Related j callee (new_callee size)) (sym (j.is.colored.routines g).frame) (begun (subst (λ xs. 0 < length xs) (sym e) (omega arith)))

    -- the end of a block
    module _ (b0 : BasicBlock) (is : slice_get code.blocks k ≡ Some b0) (x y : View) (o : List ℕ) (h : Held (table k (length b0.body)) x y) (still : Stays x y) where
      item_is : (e : Exit) → b0.exit ≡ e → item_at code (record { block = k; at = length b0.body }) ≡ Some (End e)
      item_is e q = ap (λ m. item_of m (length b0.body)) is ∙ end_of b0.body b0.exit ∙ ap (λ m. Some (End m)) q

      successors_are : (e : Exit) → b0.exit ≡ e → successors j.t.word code k ≡ successors_by j.t.word code.blocks k e
      successors_are e q = ap (successors_at j.t.word code.blocks k) is ∙ ap (successors_by j.t.word code.blocks k) q

      aims : (l : ℕ) → x.targets (Block l) ≡ Some l
      aims l = still.targets (Block l)

      jump_goes : (ms : List Move) → b0.exit ≡ Jumps ms → (q : Option ℕ) → went j.t.word (assigned (with_normal_jump j.t.word ms) Pc) x ≡ Ok q → Contains (successors j.t.word code k) (next_block j.t j.old s q)
      jump_goes ms e q g =
          let w = (j.is.image.routines f b.stands).whole.jumps (record { block = k; at = length b0.body }) ms (item_is (Jumps ms) e) in
          let label : label_of j.t.word ms ≡ Some (w.0) = ap label_by (w.1) in
          let leads = jump_leads j.t.word x (w.0) q _ aims (w.1) g in
          subst (λ ns. Contains ns (next_block j.t j.old s q)) (sym (successors_are (Jumps ms) e ∙ ap (positions_by code.blocks) label))
          (subst (λ n. Contains (position code.blocks (w.0) 0 ∷ []) (next_block j.t j.old s n)) (sym leads) (0, omega arith, refl))

      branch_goes : (ms : List Move) → b0.exit ≡ Branches ms → (q : Option ℕ) → went j.t.word (assigned (with_normal_jump j.t.word ms) Pc) x ≡ Ok q → Contains (successors j.t.word code k) (next_block j.t j.old s q)
      branch_goes ms e q g =
          let w = (j.is.image.routines f b.stands).whole.branches (record { block = k; at = length b0.body }) ms (item_is (Branches ms) e) in
          subst (λ ns. Contains ns (next_block j.t j.old s q)) (sym (successors_are (Branches ms) e ∙ ap (λ l. suc k ∷ positions_by code.blocks l) (w.1)))
          (by (w.0) (label_leads j.t.word x (w.0) q aims _ (w.1) g))
        where
          by : (l : ℕ) → (q ≡ x.cells Pc) ⊎ (q ≡ Some l) → Contains (suc k ∷ position code.blocks l 0 ∷ []) (next_block j.t j.old s q)
          by l (inl p) = subst (λ n. Contains (suc k ∷ position code.blocks l 0 ∷ []) (next_block j.t j.old s n)) (sym (p ∙ h.old_plain Pc refl)) (0, omega arith, refl)
          by l (inr p) = subst (λ n. Contains (suc k ∷ position code.blocks l 0 ∷ []) (next_block j.t j.old s n)) (sym p) (1, omega arith, refl)

      outgoing_is : (ms : List Move) (g : ℕ) → b0.exit ≡ Calls ms → callee_of j.t.word ms ≡ Some g → word_bytes j.t * (routine j g).params + word_bytes j.t ≤ code.first_home
      outgoing_is ms g e q =
          by_bytes (λ n. (routine j g).params ≤ (code.first_home - n * 1) / n → n * 3 ≤ code.first_home → n * (routine j g).params + n ≤ code.first_home) (λ a l. omega (arith, a, l)) (λ a l. omega (arith, a, l)) j.t.word j.is.target.size
          (subst (λ ks. (routine j g).params ≤ (code.first_home - word_bytes j.t * (1 + length ks)) / word_bytes j.t) j.is.none_kept (j.is.image.arguments f g (record { block = k; at = length b0.body }) ms (item_is (Calls ms) e) q))
          (subst (λ ks. word_bytes j.t * (3 + length ks) ≤ code.first_home) j.is.none_kept (framed j f b.stands).below_homes)

      called_alike : (ms : List Move) → b0.exit ≡ Calls ms → IsEndPlace j.t code (j.seats f) (j.live f) k b0 (Calls ms) → (g : Option ℕ) → callee_of j.t.word ms ≡ g → Alike (called j.t j.old g s x o) (called j.t j.new g r y o)
      called_alike ms e at None q = tt
      called_alike ms e at (Some g) q =
          fits_alike (Related j) _ _ o o _ _ (ap (λ n. nat_le n j.t.stack) (same_taken g _ _ (same_taken f _ _ (chain_same j c.bytes d.bytes _ _ cs ds b.chain))))
          (λ fit. goes_down g x y o _ h still at (outgoing_is ms g e q) (leb-true _ _ fit) (routine j g).blocks refl)

      end_alike : (e e' : Exit) (loads : List (List Move)) → IsColoredExit j.t code (j.seats f) e loads e' → b0.exit ≡ e → IsEndPlace j.t code (j.seats f) (j.live f) k b0 e
          → Alike (exit_made j.t j.old e s x o) (body_made j.t.word loads y o (exit_made j.t j.new e' r))
      end_alike e e' loads falls q at = on_at x y o (suc k) (weaker j f base _ _ x y at h) still
      end_alike e e' loads (jumps ms loads' new parts) q at = jump_alike b0 ms new loads parts at x y o h still (jump_goes ms q)
      end_alike e e' loads (branches ms loads' new parts) q at = jump_alike b0 ms new loads parts at x y o h still (branch_goes ms q)
      end_alike e e' loads (calls ms) q at = called_alike ms q at (callee_of j.t.word ms) refl
      end_alike e e' loads returns q at =
          goes_back j x y o (h.registers j.t.result (not_free j f j.t.result j.is.target.result)) h.land.bytes h.input (words_of j.t.word x h.words (subst AreBytes (sym h.input) h.ready.bytes)) (words_of j.t.word y h.ready.words h.ready.bytes)
          _ _ cs ds (callers_kept j f k base cs ds c d out b room x y still)

    abbrev before : View
    before = old_view j f k base cs ds c d out b room

    abbrev new_before : View
    new_before = new_view j f k base cs ds c d out b room

    block_alike : (b0 b1 : BasicBlock) → slice_get code.blocks k ≡ Some b0 → IsColoredBlock j.t code (j.seats f) b0 b1 → Alike (block_made j.t j.old (Some b0) s) (block_made j.t j.new (Some b1) r)
    block_alike b0 b1 is q =
        subst (λ xs. Alike (block_made j.t j.old (Some b0) s) (body_made j.t.word xs new_before out fin)) (sym q.is)
        (by (body_keeps j.t code (j.seats f) base b0.body q.body (table k 0) (table k (length b0.body)) before new_before out (placed j f k base cs ds c d out b room) tabled.general q.colored (tabled.bodies k b0 is)
        (begin_holds j f k base cs ds c d out b room)))
      where
        go : View → List ℕ → Step State
        go = exit_made j.t j.old b0.exit s

        fin : View → List ℕ → Step State
        fin = exit_made j.t j.new b1.exit r

        by : AreBodiesAlike j.t code (j.seats f) base b0.body q.body (table k (length b0.body)) before new_before out
            → Alike (body_made j.t.word b0.body before out (exit_made j.t j.old b0.exit s)) (body_made j.t.word (q.body ++ q.loads) new_before out (exit_made j.t j.new b1.exit r))
        by (old_fails p e) = subst (λ m. Alike m (body_made j.t.word (q.body ++ q.loads) new_before out (exit_made j.t j.new b1.exit r))) (sym (e (exit_made j.t j.old b0.exit s))) tt
        by (both_stop p n e e') =
            subst (λ m. Alike m (body_made j.t.word (q.body ++ q.loads) new_before out (exit_made j.t j.new b1.exit r))) (sym (e (exit_made j.t j.old b0.exit s)))
            (subst (λ m. Alike (Stops p n) m) (sym (e' q.loads (exit_made j.t j.new b1.exit r))) (refl, refl))
        by (both_go x y p e e' h still) =
            subst (λ m. Alike m (body_made j.t.word (q.body ++ q.loads) new_before out (exit_made j.t j.new b1.exit r))) (sym (e (exit_made j.t j.old b0.exit s)))
            (subst (λ m. Alike (exit_made j.t j.old b0.exit s x p) m) (sym (e' q.loads (exit_made j.t j.new b1.exit r)))
            (end_alike b0 is x y p h still b0.exit b1.exit q.loads q.exit refl (tabled.ends k b0 is)))

    block_by : (m n : Option BasicBlock) → slice_get code.blocks k ≡ m → MatchOption m (Unit {0}) (λ b0. IsSomeAnd n (IsColoredBlock j.t code (j.seats f) b0)) → Alike (block_made j.t j.old m s) (block_made j.t j.new n r)
    block_by None n e q = tt
    block_by (Some b0) (Some b1) e q = block_alike b0 b1 e q
    block_by (Some b0) None e q = absurd q

  pub step_alike : (s r : State) → Related j s r → Alike (step j.t j.old s) (step j.t j.new r)
  step_alike s r (fails s' r' e o) = subst (λ m. Alike m (step j.t j.new r)) (sym e) tt
  step_alike s r (related f k base cs ds c d out b) =
      fits_alike (Related j) _ _ out out _ _ (ap (λ n. nat_le n j.t.stack) (same_taken f _ _ (chain_same j c.bytes d.bytes _ _ cs ds b.chain)))
      (λ fit. block_by f k base cs ds c d out b (leb-true _ _ fit) (slice_get (routine j f).blocks k) (slice_get (j.new.routines f).blocks k) refl (AllZip-left _ _ _ (j.is.colored.routines f).blocks k))

  pub same_printed : (s r : State) → Related j s r → s.printed ≡ r.printed
  same_printed s r (related f k base cs ds c d out b) = refl
  same_printed s r (fails s' r' e o) = o
