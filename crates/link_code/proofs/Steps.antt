-- States of the unit and of the machine that belong together, and that each step of the unit is some turns of the machine.
use Rattle.std.proofs.Common.{◌≡◌, ℕ, zero, suc, ◌+◌, ◌-◌, ◌%◌, ◌^◌, ◌<◌, ◌≤◌, ◌&&◌, ◌==◌, Bool, true, false, cond, List, [], ◌∷◌, ◌++◌, length, Option, Some, None, refl, sym, ap, ◌∙◌, subst, arith, inl, inr}
use Rattle.std.specs.Prelude.{nat_le, nat_lt, slice_get, ◌⊎◌}
use Rattle.std.specs.List.{list_any}
use Rattle.std.proofs.lemmas.Bool.{eqb-true, leb-true, leb-false, ltb-false}
use Rattle.rtl_tree.specs.declared.cells.Cell.{Cell}
use Rattle.rtl_tree.specs.declared.cells.Cell.TheVariants.{Hard, Temp, Flag, Pc, Input, Output, Halt, Hole}
use Rattle.behaviour.specs.Behaviour.{Ended}
use Rattle.behaviour.specs.Steps.{Move, Goes}
use Rattle.behaviour.proofs.Stepping.{comes_refl, stops_one}
use Rattle.rtl_effect.specs.Views.{View, word_at}
use Rattle.rtl_effect.specs.Effects.{effect}
use Rattle.rtl_effect.specs.Agree.{Tells, blank, word, gone}
use Rattle.rtl_norm_value.specs.Effect.{IsSameEffect, with_normal_jump}
use Rattle.rtl_norm_value.proofs.Same.{jump_is_place}
use Rattle.temp_machine.specs.Routines.{Exit, Falls, Jumps, Branches, Calls, Returns, BasicBlock, word_bytes, pushed}
use Rattle.temp_machine.specs.Machine.{Waiting, State, may_touch, taken, is_kept, view_in, state_with, next_block, entered, waiting, ended, returned, called as unit_called, if_it_fits, exit_made, block_made, body_made, step as unit_step}
use Rattle.link_code.proofs.Memory.{false_true, word_same}
use Rattle.link_code.specs.Linked.{Transfer, Job, code, end_lines, block_place}
use Rattle.link_code.proofs.Machine.{Mach, view_of, machine}
use Rattle.link_code.specs.Runs.{Stands, JumpPlain, CallPlain, EndPlain, IsLinkable}
use Rattle.link_code.proofs.Places.{Here, here_next, here_last, here_done, here_short, entry_here, function_named, block_here, start_here}
use Rattle.link_code.proofs.Glue.{ret_off, finishes}
use Rattle.link_code.proofs.Wording.{Words, word_view}
use Rattle.link_code.proofs.Calls.{low_of, low_words, sum_words, Entered, Left, enters, leaves}
use Rattle.link_code.proofs.Frames.{Chain, pushed_small, chain_room, chain_low, rets_high, top_private, waiting_private, chain_kept}
use Rattle.link_code.proofs.Holding.{plain_of, is_plain, PlaceIs, Held, jumps_aim}
use Rattle.link_code.proofs.Ahead.{Ahead, Arrived, leads_first, transfer_ahead, body_ahead}

block_short : (bs : List BasicBlock) (k : ℕ) (b : BasicBlock) → slice_get bs k ≡ Some b → k < length bs
block_short [] k b e = absurd (grind (arith, e))
block_short (x ∷ xs) zero b e = omega arith
block_short (x ∷ xs) (suc k) b e = let h = block_short xs k b e in omega (arith, h)

outside_of : (low high a : ℕ) → (nat_le low a && nat_lt a high) ≡ false → (a < low) ⊎ (high ≤ a)
outside_of low high a e = by (nat_le low a) refl e
  where
    by : (b : Bool) → nat_le low a ≡ b → (b && nat_lt a high) ≡ false → (a < low) ⊎ (high ≤ a)
    by true g h = inr (ltb-false a high h)
    by false g h = inl (leb-false low a g)

module _ (j : Job) (is : IsLinkable j) where
  abbrev pub size : State → ℕ
  size s = length (j.p.routines s.top.function).blocks - s.top.block

  pub record Related (s : State) (m : Mach) : Type 0 where
    pub known : Stands s.top.function j.order
    pub place : m.place ≡ block_place j s.top.function s.top.block
    pub back : ℕ
    pub chain : Chain j is m.bytes (code j s.top.function).params (s.top.base + (code j s.top.function).frame + (pushed j.t)) s.callers back
    pub saved : word_at m.bytes (s.top.base + ret_off j.t j.t.link (code j s.top.function)) (word_bytes j.t) ≡ Some back
    pub aligned : s.top.base % (word_bytes j.t) ≡ 0
    pub regs : (n : ℕ) → Tells (s.regs n) (m.regs n)
    pub flags : (n : ℕ) → Rattle.rtl_effect.specs.Agree.Marks (s.flags n) (m.flags n)
    pub bytes : (a : ℕ) → Tells (s.bytes a) (m.bytes a)
    pub input : s.input ≡ m.input
    pub out : s.printed ≡ m.out
    pub stack : m.regs j.t.sp ≡ Some s.top.base
    pub words : Words j is m

  abbrev Goal : Bool → ℕ → Move State → Mach → Type 0
  Goal b n x m = Ahead j is Related size b n x m

  tell_two : (b : Bool) (x : ℕ) (y : Option ℕ) → (b ≡ true → y ≡ Some x) → Tells (cond b (Some x) None) y
  tell_two true x y h = subst (Tells (Some x)) (sym (h refl)) (word x)
  tell_two false x y h = blank y

  tell_three : (a b : Bool) (x : ℕ) (r y : Option ℕ) → (a ≡ true → y ≡ Some x) → (b ≡ true → Tells r y) → Tells (cond a (Some x) (cond b r None)) y
  tell_three true b x r y h k = subst (Tells (Some x)) (sym (h refl)) (word x)
  tell_three false true x r y h k = k refl
  tell_three false false x r y h k = blank y

  none_kept : (n : ℕ) → is_kept j.t n ≡ false
  none_kept n = ap (λ xs. list_any (λ k. k == n) xs) is.none_kept

  tell_cut : (low high a : ℕ) (x y z : Option ℕ) → Tells x y → ((a < low) ⊎ (high ≤ a) → z ≡ y) → Tells (cond (nat_le low a && nat_lt a high) None x) z
  tell_cut low high a x y z t h = by (nat_le low a && nat_lt a high) refl
    where
      by : (b : Bool) → (nat_le low a && nat_lt a high) ≡ b → Tells (cond b None x) z
      by true e = blank z
      by false e = subst (Tells x) (sym (h (outside_of low high a e))) t

  -- a callee is entered from the call of a caller, or from the start
  module _ (g base back : ℕ) (m1 : Mach) (e : Entered j is j.t.link g base back m1) (stands_g : Stands g j.order) (aligned : base % (word_bytes j.t) ≡ 0) (fits : (code j g).frame + (pushed j.t) ≤ base)
      (callers : List Waiting) (chain : Chain j is e.to.bytes (code j g).params (low_of j is g base + (code j g).frame + (pushed j.t)) callers back)
      (bytes : ℕ → Option ℕ) (tells : (a : ℕ) → Tells (bytes a) (m1.bytes a)) (input : List ℕ) (same_input : input ≡ m1.input) where
    low_aligned : low_of j is g base % (word_bytes j.t) ≡ 0
    low_aligned = by j.t.link is.links
      where
        cut : (p : ℕ) → p % (word_bytes j.t) ≡ 0 → (base - ((code j g).frame + p)) % (word_bytes j.t) ≡ 0
        cut p z = low_words j is base ((code j g).frame + p) aligned (sum_words j is (code j g).frame p (is.codes g stands_g).frame_words z)

        zero_word : 0 % (word_bytes j.t) ≡ 0
        zero_word = omega arith

        by : (o : Option ℕ) → Rattle.link_code.specs.Runs.LinkFits o (pushed j.t) (word_bytes j.t) j.t.sp j.t.result → low_of j is g base % (word_bytes j.t) ≡ 0
        by None f = cut (pushed j.t) (ap (λ p. p % (word_bytes j.t)) f ∙ (λ i. self i))
          where
            self : (word_bytes j.t) % (word_bytes j.t) ≡ 0
            self = Rattle.link_code.proofs.Calls.one_word j is
        by (Some z) f = cut (pushed j.t) (ap (λ p. p % (word_bytes j.t)) f.0 ∙ zero_word)

    pub entered_related : Related (entered j.t j.p g callers base bytes input m1.out) e.to
    entered_related = record {
      known = stands_g;
      place = e.place;
      back = back;
      chain = chain;
      saved = e.saved;
      aligned = low_aligned;
      regs = λ n. tell_two (n == j.t.sp) _ _ (λ q. ap (λ k. e.to.regs k) (eqb-true n j.t.sp q) ∙ e.stack);
      flags = λ n. gone _;
      bytes = λ a. tell_cut (low_of j is g base) base a (bytes a) (m1.bytes a) (e.to.bytes a) (tells a) (e.bytes a);
      input = same_input ∙ sym e.input;
      out = sym e.out;
      stack = e.stack;
      words = e.words;
    }

  module _ (s : State) (m : Mach) (r : Related s m) (fit : taken j.t j.p s ≤ j.t.stack) where
    abbrev f : ℕ
    f = s.top.function

    abbrev k : ℕ
    k = s.top.block

    abbrev base : ℕ
    base = s.top.base

    abbrev Holds : View → Mach → Type 0
    Holds v m1 = Held j is f r.known (may_touch j.t j.p s.top s.callers) m.bytes base v m1

    begins_plain : (c : Cell) → is_plain c ≡ true → (view_in j.t j.p s).cells c ≡ plain_of j.t.word s.input c
    begins_plain (Hard n) e = false_true e
    begins_plain (Temp n) e = false_true e
    begins_plain Pc e = refl
    begins_plain Input e = refl
    begins_plain (Flag n) e = refl
    begins_plain Output e = refl
    begins_plain Halt e = refl
    begins_plain (Hole n) e = refl

    begins : Holds (view_in j.t j.p s) m
    begins = record {
      regs = r.regs;
      flags = r.flags;
      plain = begins_plain;
      bytes = r.bytes;
      size = refl;
      symbols = λ n. refl;
      labels = λ l. refl;
      targets = λ l. refl;
      input = r.input;
      old_reach = λ a. refl;
      still = λ a e. refl;
      stack = r.stack;
      words = r.words;
    }

    -- what the body leaves of the words that say where to go back
    chain_after : (v : View) (m1 : Mach) → Holds v m1 → Chain j is m1.bytes (code j f).params (base + (code j f).frame + (pushed j.t)) s.callers r.back
    chain_after v m1 h = chain_kept j is m.bytes m1.bytes _ _ s.callers r.back (λ a i. h.still a (waiting_private j is m.bytes s.top s.callers r.back r.known r.chain fit a i)) r.chain

    saved_after : (v : View) (m1 : Mach) → Holds v m1 → word_at m1.bytes (base + ret_off j.t j.t.link (code j f)) (word_bytes j.t) ≡ Some r.back
    saved_after v m1 h =
        word_same m1.bytes m.bytes (base + ret_off j.t j.t.link (code j f)) (word_bytes j.t) (λ b p q. h.still b (top_private j is m.bytes s.top s.callers r.back r.known r.chain fit b (p, q))) ∙ r.saved

    goes_on : (to : ℕ) (v : View) (m1 : Mach) → Holds v m1 → m1.place ≡ block_place j f to → Related (state_with j.t j.p s v m1.out to) m1
    goes_on to v m1 h at_place = record {
      known = r.known;
      place = at_place;
      back = r.back;
      chain = chain_after v m1 h;
      saved = saved_after v m1 h;
      aligned = r.aligned;
      regs = h.regs;
      flags = h.flags;
      bytes = h.bytes;
      input = h.input;
      out = refl;
      stack = h.stack;
      words = h.words;
    }

    module _ (b : BasicBlock) (at_block : slice_get (code j f).blocks k ≡ Some b) where
      abbrev next : ℕ
      next = block_place j f (suc k)

      stays : (c : Bool) (m1 : Mach) (v : View) → Arrived j is Related size c (state_with j.t j.p s v m1.out (suc k)) (size s) m1 m1
      stays true m1 v = comes_refl (machine j) m1
      stays false m1 v = inr (refl, (let l = block_short (code j f).blocks k b at_block in omega (arith, l)))

      jump_ahead : (ms : Transfer) → JumpPlain j.t (code j f).blocks ms → (c : Bool) (v : View) (m1 : Mach) → Holds v m1 → Here j m1.place (ms ∷ []) next
          → Goal c (size s) (exit_made j.t j.p (Jumps ms) s v m1.out) m1
      jump_ahead ms flat c v m1 h here =
          transfer_ahead j is Related size f r.known (may_touch j.t j.p s.top s.callers) m.bytes base c (size s) (with_normal_jump j.t.word ms) ms [] next v m1 h same flat.plain
          (jumps_aim j is f r.known (may_touch j.t j.p s.top s.callers) m.bytes base v m1 h (with_normal_jump j.t.word ms) flat.own) here (λ z o q. Goes (state_with j.t j.p s z o (next_block j.t j.p s q)))
          (λ v' m2 q g w t. (m2, goes_on (next_block j.t j.p s q) v' m2 g (lands q m2.place t), comes_refl (machine j) m2))
        where
          small : suc m1.place < 2 ^ j.t.word
          small = let l = here_short j m1.place ms [] next here in let q = is.short in omega (arith, l, q)

          same : IsSameEffect (effect j.t.word (with_normal_jump j.t.word ms) (view_of j m1)) (effect j.t.word ms (view_of j m1))
          same = jump_is_place j.t.word ms (view_of j m1) is.sized (word_view j is m1 h.words small) (λ l. refl) flat.formed flat.fits flat.filled

          from_some : Option ℕ → ℕ
          from_some (Some x) = x
          from_some None = 0

          lands : (q : Option ℕ) (p : ℕ) → PlaceIs j is f r.known m1.place q (Some p) → p ≡ block_place j f (next_block j.t j.p s q)
          lands None p t = ap from_some t ∙ here_last j m1.place ms next here
          lands (Some l) p t = ap from_some t

      -- a call: the transfer that calls, and the entry
      module _ (ms : Transfer) (flat : CallPlain j f ms) (v : View) (m1 : Mach) (h : Holds v m1) (here : Here j m1.place (ms ∷ []) next) where
        abbrev g : ℕ
        g = flat.callee

        abbrev caller : Waiting
        caller = waiting j.t j.p s v m1.out

        abbrev callee : State
        callee = entered j.t j.p g (caller ∷ s.callers) base v.bytes v.input m1.out

        module _ (room : taken j.t j.p callee ≤ j.t.stack) where
          room_below : (code j g).frame + (pushed j.t) ≤ base
          room_below = let c = chain_room j is m.bytes (code j f).params (base + (code j f).frame + (pushed j.t)) s.callers r.back r.chain in let p = pushed_small j is in let q = is.room in omega (arith, c, p, q, room)

          base_inside : base ≤ j.t.memory
          base_inside = let c = chain_low j is m.bytes (code j f).params (base + (code j f).frame + (pushed j.t)) s.callers r.back r.chain in omega (arith, c)

          place_small : suc m1.place < 2 ^ j.t.word
          place_small = let l = here_short j m1.place _ [] next here in let q = is.short in omega (arith, l, q)

          entering : Entered j is j.t.link g base (suc m1.place) m1
          entering = enters j is j.t.link refl is.links m1 h.words g base [] next h.stack base_inside r.aligned room_below (is.codes g flat.there) place_small ms flat.does here (function_named j g flat.there) (entry_here j g flat.there)

          low_is : low_of j is g base + (code j g).frame + (pushed j.t) ≡ base
          low_is = let b = room_below in omega (arith, b)

          linked : Chain j is entering.to.bytes (code j g).params (low_of j is g base + (code j g).frame + (pushed j.t)) (caller ∷ s.callers) (suc m1.place)
          linked = (
            record {
              known = r.known;
              high_is = low_is;
              back_is = here_last j m1.place _ next here;
              aligned = r.aligned;
              outgoing = flat.arguments;
              back' = r.back;
              saved = word_same entering.to.bytes m1.bytes (base + ret_off j.t j.t.link (code j f)) (word_bytes j.t) (λ b p q. entering.bytes b (inr (omega (arith, p)))) ∙ saved_after v m1 h;
            },
            chain_kept j is m1.bytes entering.to.bytes (code j f).params (base + (code j f).frame + (pushed j.t)) s.callers r.back
                (λ a i. entering.bytes a (inr (let l = rets_high j is m.bytes (code j f).params (base + (code j f).frame + (pushed j.t)) s.callers r.back r.chain a i in omega (arith, l)))) (chain_after v m1 h),
          )

          called : Related callee entering.to
          called = entered_related g base (suc m1.place) m1 entering flat.there r.aligned room_below (caller ∷ s.callers) linked v.bytes h.bytes v.input h.input

        call_ahead : (c : Bool) → Goal c (size s) (exit_made j.t j.p (Calls ms) s v m1.out) m1
        call_ahead c = subst (λ o. Goal c (size s) (unit_called j.t j.p o s v m1.out) m1) (sym flat.calls) (by (nat_le (taken j.t j.p callee) j.t.stack) refl)
          where
            by : (x : Bool) → nat_le (taken j.t j.p callee) j.t.stack ≡ x → Goal c (size s) (if_it_fits x m1.out (Goes callee)) m1
            by true e = let q = leb-true _ _ e in leads_first j is Related size c (size s) (Goes callee) m1 (entering q).to (entering q).leads ((entering q).to, called q, comes_refl (machine j) (entering q).to)
            by false e = tt

      -- a return: to the first of the callers, or to the start
      module _ (v : View) (m1 : Mach) (h : Holds v m1) (here : Here j m1.place (end_lines j.t j.glue j.t.link (code j f) Returns) next) where
        inside : base + (code j f).frame + (pushed j.t) ≤ j.t.memory
        inside = chain_low j is m.bytes (code j f).params (base + (code j f).frame + (pushed j.t)) s.callers r.back r.chain

        leaving : Left j is f base r.back m1
        leaving = leaves j is j.t.link refl is.links m1 h.words f base r.back next h.stack r.aligned inside (is.codes f r.known) (saved_after v m1 h) here

        result_tells : Tells (v.cells (Hard j.t.result)) (leaving.to.regs j.t.result)
        result_tells = subst (Tells (v.cells (Hard j.t.result))) (sym leaving.result) (h.regs j.t.result)

        finish_here : leaving.to.place ≡ 2 → Here j leaving.to.place (j.glue.finish ∷ []) 3
        finish_here e = subst (λ p. Here j p (j.glue.finish ∷ []) 3) (sym e) (here_next j 1 _ _ 3 (here_next j 0 _ _ 3 (start_here j)))

        last : (x y : Option ℕ) → Tells x y → leaving.to.regs j.t.result ≡ y → leaving.to.place ≡ 2 → Goal true (size s) (ended m1.out x) leaving.to
        last x y (blank z) e at_start = tt
        last x y (word n) e at_start =
            (1, stops_one (machine j) leaving.to leaving.to.out (n % 256) (finishes j is leaving.to leaving.words n [] 3 (finish_here at_start) e) ∙ ap (λ o. Ended o (n % 256)) leaving.out)

        returns_ahead : (cs : List Waiting) → Chain j is m1.bytes (code j f).params (base + (code j f).frame + (pushed j.t)) cs r.back → Goal true (size s) (returned j.t j.p cs v m1.out) leaving.to
        returns_ahead [] chain = last (v.cells (Hard j.t.result)) (leaving.to.regs j.t.result) result_tells refl (leaving.place ∙ chain.1)
        returns_ahead (c ∷ cs) chain = (
          leaving.to,
          record {
            known = chain.0.known;
            place = leaving.place ∙ chain.0.back_is;
            back = chain.0.back';
            chain = chain_kept j is m1.bytes leaving.to.bytes (code j c.active.function).params (c.active.base + (code j c.active.function).frame + (pushed j.t)) cs (chain.0.back') (λ a i. leaving.bytes a) chain.1;
            saved = word_same leaving.to.bytes m1.bytes (c.active.base + ret_off j.t j.t.link (code j c.active.function)) (word_bytes j.t) (λ b p q. leaving.bytes b) ∙ chain.0.saved;
            aligned = chain.0.aligned;
            regs = λ n. subst (λ x. Tells (cond (n == j.t.sp) (Some c.active.base) (cond x (c.regs n) (cond (n == j.t.result) (v.cells (Hard n)) None))) (leaving.to.regs n)) (sym (none_kept n)) (tell_three (n == j.t.sp) (n == j.t.result) c.active.base (v.cells (Hard n)) (leaving.to.regs n)
                (λ q. ap (λ i. leaving.to.regs i) (eqb-true n j.t.sp q) ∙ leaving.stack ∙ ap Some chain.0.high_is)
                (λ q. subst (λ i. Tells (v.cells (Hard i)) (leaving.to.regs i)) (sym (eqb-true n j.t.result q)) result_tells));
            flags = λ n. gone _;
            bytes = λ a. subst (Tells (v.bytes a)) (sym (leaving.bytes a)) (h.bytes a);
            input = h.input ∙ sym leaving.input;
            out = sym leaving.out;
            stack = leaving.stack ∙ ap Some chain.0.high_is;
            words = leaving.words;
          },
          comes_refl (machine j) leaving.to,
        )

        return_ahead : (c : Bool) → Goal c (size s) (exit_made j.t j.p Returns s v m1.out) m1
        return_ahead c =
            leads_first j is Related size c (size s) (returned j.t j.p s.callers v m1.out) m1 leaving.to leaving.leads
            (returns_ahead s.callers (chain_after v m1 h))

      end_ahead : (e : Exit) → EndPlain j f e → (c : Bool) (v : View) (m1 : Mach) → Holds v m1 → Here j m1.place (end_lines j.t j.glue j.t.link (code j f) e) next → Goal c (size s) (exit_made j.t j.p e s v m1.out) m1
      end_ahead Falls flat c v m1 h here = (m1, goes_on (suc k) v m1 h (here_done j m1.place next here), stays c m1 v)
      end_ahead (Jumps ms) flat c v m1 h here = jump_ahead ms flat c v m1 h here
      end_ahead (Branches ms) flat c v m1 h here = jump_ahead ms flat c v m1 h here
      end_ahead (Calls ms) flat c v m1 h here = call_ahead ms flat v m1 h here c
      end_ahead Returns flat c v m1 h here = return_ahead v m1 h here c

    block_ahead : (o : Option BasicBlock) → slice_get (code j f).blocks k ≡ o → Goal false (size s) (block_made j.t j.p o s) m
    block_ahead None e = tt
    block_ahead (Some b) e =
        subst (λ o. Goal false (size s) (body_made j.t.word b.body (view_in j.t j.p s) o (exit_made j.t j.p b.exit s)) m) (sym r.out)
        (body_ahead j is Related size f r.known (may_touch j.t j.p s.top s.callers) m.bytes base b.body false (size s) (end_lines j.t j.glue j.t.link (code j f) b.exit) (block_place j f (suc k)) (view_in j.t j.p s) m
        ((is.codes f r.known).bodies k b e) begins (subst (λ p. Here j p (b.body ++ end_lines j.t j.glue j.t.link (code j f) b.exit) (block_place j f (suc k))) (sym r.place) (block_here j f r.known k b e)) (exit_made j.t j.p b.exit s)
        (λ c v m1 h here. end_ahead b e b.exit ((is.codes f r.known).ends k b e) c v m1 h here))

  -- a step that the stack has room for, and one that fails
  pub step_ahead : (s : State) (m : Mach) → Related s m → Goal false (size s) (unit_step j.t j.p s) m
  step_ahead s m r = by (nat_le (taken j.t j.p s) j.t.stack) refl
    where
      by : (x : Bool) → nat_le (taken j.t j.p s) j.t.stack ≡ x → Goal false (size s) (if_it_fits x s.printed (block_made j.t j.p (slice_get (code j s.top.function).blocks s.top.block) s)) m
      by true e = block_ahead s m r (leb-true _ _ e) (slice_get (code j s.top.function).blocks s.top.block) refl
      by false e = tt
