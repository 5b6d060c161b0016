-- One load and one store.
use Rattle.std.proofs.Common.{◌≡◌, ◌≢◌, ℕ, ◌+◌, ◌*◌, ◌-◌, ◌/◌, ◌%◌, ◌^◌, ◌<◌, ◌≤◌, ◌==◌, ◌||◌, Bool, true, false, cond, List, [], ◌∷◌, slice_index, Option, Some, None, Ok, Err, refl, sym, ap, ◌∙◌, subst, arith, inl, inr}
use Rattle.std.specs.Prelude.{nat_le, ◌⊎◌}
use Rattle.std.proofs.lemmas.Bool.{eqb-true, eq-eqb, ne_eqb, le-leb}
use Rattle.std.proofs.lemmas.List.Elements.{All-nil, All-cons}
use Rattle.std.proofs.lemmas.Nat.{pow_pos}
use Rattle.std.proofs.Math.Nat.{mod-eq_of_lt}
use Rattle.behaviour.specs.Run.{AreBytes}
use Rattle.rtl_word.specs.Words.{IsWordSize, word_add}
use Rattle.rtl_word.proofs.Below.{by_size}
use Rattle.rtl_value.specs.declared.state.Trap.TheVariants.{Address, Align}
use Rattle.rtl_tree.specs.declared.cells.Cell.{Cell}
use Rattle.rtl_tree.specs.declared.cells.Cell.TheVariants.{Hard, Temp, Flag, Pc, Input, Output, Halt, Hole}
use Rattle.rtl_tree.specs.declared.expressions.Width.TheVariants.{Full}
use Rattle.rtl_tree.specs.declared.expressions.BinOp.TheVariants.{Add}
use Rattle.rtl_tree.specs.Trees.{Load}
use Rattle.rtl_tree.specs.Moves.{Move}
use Rattle.rtl_norm.specs.Transfers.{IsMoveFitting}
use Rattle.rtl_effect.specs.Views.{Wild, Traps, View, bind, word_at, all_reached, touched, binary_on, load_on, seen}
use Rattle.rtl_effect.specs.Effects.{assigned, storing, tested, done, event, went, next_in, Patch, patch_of, place_of, byte_of, plain, cell_after, view_after, Done, effect}
use Rattle.rtl_norm_value.specs.Kept.{IsWordView}
use Rattle.rtl_norm_value.proofs.WordViews.{next_below, effect_leaves, words_are_kept}
use Rattle.md_filled.specs.Doing.{IsSameBut, DoesAs}
use Rattle.temp_machine.specs.Routines.{Routine, Target, word_bytes}
use Rattle.temp_machine.specs.Machine.{is_between}
use Rattle.temp_machine.specs.Tidy.{is_among}
use Rattle.color_spilling.specs.Spilling.{above_stack, load_moves, store_moves, home_offset}
use Rattle.color_spilling.specs.Passing.{Stays, IsPlaced, home_address, IsReady, IsLoaded, IsStored}
use Rattle.color_spilling.proofs.Memory.{inside_of, outside_below, outside_above, reached_all, bytes_word}

-- ---- what a transfer leaves that does as another one

module _ (w : ℕ) (wanted ms : List Move) (z : View) (d e : Done) (made : effect w ms z ≡ Ok e) (like : IsSameBut wanted d e) where
  leaves : (p : Option Patch) × (view_after w ms p z ≡ e.view)
  leaves = effect_leaves w ms z e made

  stays_with : d.view.input ≡ z.input → Stays z e.view
  stays_with same = record {
    size = sym (ap (λ (v : View). v.size) leaves.1);
    reach = λ a. sym (ap (λ (v : View). v.reach a) leaves.1);
    symbols = λ n. sym (ap (λ (v : View). v.symbols n) leaves.1);
    labels = λ l. sym (ap (λ (v : View). v.labels l) leaves.1);
    targets = λ l. sym (ap (λ (v : View). v.targets l) leaves.1);
    places = λ n. sym (ap (λ (v : View). v.places n) leaves.1);
    counter = sym (ap (λ (v : View). v.cells Pc) leaves.1);
    input = like.input ∙ same;
  }

  shows_input : e.view.cells Input ≡ Some (next_in w e.view.input)
  shows_input = subst (λ (v : View). v.cells Input ≡ Some (next_in w v.input)) leaves.1 refl

  zero_word : (n : ℕ) → Some 0 ≡ Some n → n < 2 ^ w
  zero_word n f = let k : 0 ≡ n = cc in subst (λ (x : ℕ). x < 2 ^ w) k (pow_pos w)

  next_word : (n : ℕ) (xs : List ℕ) → IsWordSize w → AreBytes xs → Some (next_in w xs) ≡ Some n → n < 2 ^ w
  next_word n xs size fed f = let k : next_in w xs ≡ n = cc in subst (λ (x : ℕ). x < 2 ^ w) k (next_below w xs size fed)

  words_like : IsWordSize w → IsWordView w z → IsWordView w d.view → AreBytes e.view.input → IsWordView w e.view
  words_like size words has fed = record {
    cells = cells;
    bytes = λ a n h. has.bytes a n (sym (like.bytes a) ∙ h);
    symbols = λ n. subst (λ (v : View). v.symbols n < 2 ^ w) leaves.1 (words.symbols n);
    labels = λ l n h. words.labels l n (ap (λ (v : View). v.labels l) leaves.1 ∙ h);
  }
    where
      cells : (c : Cell) (n : ℕ) → e.view.cells c ≡ Some n → n < 2 ^ w
      cells (Hard k) n h = has.cells (Hard k) n (sym (like.registers k) ∙ h)
      cells (Temp k) n h = has.cells (Temp k) n (sym (like.temps k) ∙ h)
      cells Pc n h = words.cells Pc n (ap (λ (v : View). v.cells Pc) leaves.1 ∙ h)
      cells Input n h = next_word n e.view.input size fed (sym shows_input ∙ h)
      cells (Flag k) n h = zero_word n (ap (λ (v : View). v.cells (Flag k)) leaves.1 ∙ h)
      cells Output n h = zero_word n (ap (λ (v : View). v.cells Output) leaves.1 ∙ h)
      cells Halt n h = zero_word n (ap (λ (v : View). v.cells Halt) leaves.1 ∙ h)
      cells (Hole k) n h = zero_word n (ap (λ (v : View). v.cells (Hole k)) leaves.1 ∙ h)

effect_is : (w : ℕ) (ms : List Move) (z : View) (p : Option Patch) → tested w ms z ≡ Ok tt → assigned ms Output ≡ None → assigned ms Halt ≡ None → assigned ms Pc ≡ None → patch_of w (storing ms) z ≡ Ok p
    → effect w ms z ≡ Ok (record { view = view_after w ms p z; place = z.cells Pc; output = None; halt = None })
effect_is w ms z p a b c d e = λ i.
    bind (a i) (λ x. bind (event w (b i) z) (λ o. bind (event w (c i) z) (λ h. bind (went w (d i) z) (λ q. bind (e i) (λ p. Ok (record { view = view_after w ms p z; place = q; output = o; halt = h }))))))

pub by_bytes : (P : ℕ → Type 0) → P 2 → P 4 → (w : ℕ) → IsWordSize w → P (w / 8)
by_bytes P two four w size = by_size (λ w. P (w / 8)) two four w size

pub only : (k j : ℕ) → is_among j (k ∷ []) ≡ true → k ≡ j
only k j e = eqb-true k j (alone (k == j) e)
  where
    alone : (b : Bool) → (b || false) ≡ true → b ≡ true
    alone true f = refl
    alone false f = f

pub among_here : (k : ℕ) (ks : List ℕ) → is_among k (k ∷ ks) ≡ true
among_here k ks = subst (λ b. (b || is_among k ks) ≡ true) (sym (eq-eqb k k refl)) refl

module _ (t : Target) (r : Routine) (base : ℕ) (placed : IsPlaced t r base) where
  abbrev pub wb : ℕ
  wb = word_bytes t

  -- ---- homes in the frame

  pub homes_apart : (j k b : ℕ) → slice_index r.homes j ≢ slice_index r.homes k → home_address t r base k ≤ b → b < home_address t r base k + wb → (b < home_address t r base j) ⊎ (home_address t r base j + wb ≤ b)
  homes_apart j k b ne l h =
      by_bytes (λ n. base + (r.first_home + n * slice_index r.homes k) ≤ b → b < base + (r.first_home + n * slice_index r.homes k) + n → (b < base + (r.first_home + n * slice_index r.homes j)) ⊎ (base + (r.first_home + n * slice_index r.homes j) + n ≤ b))
      (λ p q. split (grind (arith, ne)) (λ s. inr (omega (arith, p, s))) (λ s. inl (omega (arith, q, s)))) (λ p q. split (grind (arith, ne)) (λ s. inr (omega (arith, p, s))) (λ s. inl (omega (arith, q, s))))
      t.word placed.target.size l h
    where
      split : {A : Type 0} → (slice_index r.homes j < slice_index r.homes k) ⊎ (slice_index r.homes k < slice_index r.homes j) → (slice_index r.homes j < slice_index r.homes k → A) → (slice_index r.homes k < slice_index r.homes j → A) → A
      split (inl s) f g = f s
      split (inr s) f g = g s

  module _ (k : ℕ) (has : slice_index r.homes k < r.slots) where
    abbrev a : ℕ
    a = home_address t r base k

    home_ends : a + wb ≤ base + r.first_home + wb * r.slots
    home_ends =
        by_bytes (λ n. slice_index r.homes k < r.slots → base + (r.first_home + n * slice_index r.homes k) + n ≤ base + r.first_home + n * r.slots)
        (λ h. omega (arith, h)) (λ h. omega (arith, h)) t.word placed.target.size has

    home_in_memory : a + wb ≤ t.memory
    home_in_memory =
        by_bytes (λ n. slice_index r.homes k < r.slots → r.first_home + n * r.slots ≤ r.frame → base + r.frame ≤ t.memory → base + (r.first_home + n * slice_index r.homes k) + n ≤ t.memory)
        (λ h f m. omega (arith, h, f, m)) (λ h f m. omega (arith, h, f, m)) t.word placed.target.size has placed.framed.fits placed.inside

    home_aligned : a % wb ≡ 0
    home_aligned =
        by_bytes (λ n. base % n ≡ 0 → r.first_home % n ≡ 0 → (base + (r.first_home + n * slice_index r.homes k)) % n ≡ 0)
        (λ p q. omega (arith, p, q)) (λ p q. omega (arith, p, q)) t.word placed.target.size placed.aligned placed.framed.home_words

    some_bytes : 0 < wb
    some_bytes = by_bytes (λ n. 0 < n) (omega arith) (omega arith) t.word placed.target.size

    below : (m : ℕ) → a + wb ≤ t.memory → t.memory < m → 0 < wb → a < m
    below m h k s = omega (arith, h, k, s)

    address_small : a < 2 ^ t.word
    address_small = below (2 ^ t.word) home_in_memory placed.target.memory some_bytes

    offset_below : (m : ℕ) → base + home_offset t r k < m → home_offset t r k < m
    offset_below m h = omega (arith, h)

    offset_small : home_offset t r k < 2 ^ t.word
    offset_small = offset_below (2 ^ t.word) address_small

    slot_at : word_add t.word base (home_offset t r k) ≡ a
    slot_at = mod-eq_of_lt address_small

    in_homes : (b : ℕ) → a ≤ b → b < a + wb → is_between (base + r.first_home) (base + r.first_home + wb * r.slots) b ≡ true
    in_homes b l h = inside_of _ _ b (omega (arith, l)) (omega (arith, home_ends, h))

    module _ (z : View) (ready : IsReady t r base z) where
      home_touched : touched (t.word / 8) z (Some a) ≡ Ok a
      home_touched = λ i. cond (size i) (cond (align i) (cond (all i) (Ok a) (Err Wild)) (Err (Traps Align))) (Err (Traps Address))
        where
          size : nat_le (a + wb) z.size ≡ true
          size = le-leb _ _ (subst (λ (m : ℕ). a + wb ≤ m) (sym ready.size) home_in_memory)

          align : (a % wb == 0) ≡ true
          align = eq-eqb _ _ home_aligned

          all : all_reached z.reach a wb ≡ true
          all = reached_all z.reach _ _ (λ b l h. ready.reach b (in_homes b l h))

      at_slot : seen t.word (above_stack t.sp (home_offset t r k)) z ≡ Ok (Some a)
      at_slot = ap (λ x. binary_on t.word Add (Ok x) (Ok (Some (home_offset t r k)))) ready.stack ∙ ap (λ x. Ok (Some x)) slot_at

      loaded : seen t.word (Load Full (above_stack t.sp (home_offset t r k))) z ≡ Ok (word_at z.bytes a wb)
      loaded = ap (load_on (t.word / 8) z) at_slot ∙ ap (λ x. bind x (λ b. Ok (word_at z.bytes b (t.word / 8)))) home_touched

      place_is : place_of t.word Full (above_stack t.sp (home_offset t r k)) z ≡ Ok a
      place_is = ap (λ x. bind x (touched (t.word / 8) z)) at_slot ∙ home_touched

      module _ (register : ℕ → ℕ) where
        -- ---- a load

        abbrev load : List Move
        load = load_moves t.sp (register k) (home_offset t r k)

        abbrev load_done : Done
        load_done = record { view = view_after t.word load None z; place = z.cells Pc; output = None; halt = None }

        load_effect : effect t.word load z ≡ Ok load_done
        load_effect = effect_is t.word load z None (ap (λ s. bind (done s) (λ x. tested t.word [] z)) loaded) refl refl refl refl

        load_words : IsWordView t.word (view_after t.word load None z)
        load_words = (words_are_kept t.word load z load_done placed.target.size ready.words ready.bytes (All-cons (IsMoveFitting t.word) _ [] (tt, (tt, offset_small)) (All-nil (IsMoveFitting t.word))) load_effect).0

        load_gives : load_done.view.cells (Hard (register k)) ≡ word_at z.bytes a wb
        load_gives = ap (λ b. cell_after t.word (cond b (Some (Load Full (above_stack t.sp (home_offset t r k)))) None) z (z.cells (Hard (register k)))) (eq-eqb (register k) (register k) refl) ∙ ap plain loaded

        load_keeps : (n : ℕ) → register k ≢ n → load_done.view.cells (Hard n) ≡ z.cells (Hard n)
        load_keeps n ne = ap (λ b. cell_after t.word (cond b (Some (Load Full (above_stack t.sp (home_offset t r k)))) None) z (z.cells (Hard n))) (ne_eqb (register k) n ne)

        module _ (ms : List Move) (low : register k ≢ t.sp) (e : Done) (made : effect t.word ms z ≡ Ok e) (like : IsSameBut load load_done e) where
          abbrev load_stays : Stays z e.view
          load_stays = stays_with t.word load ms z load_done e made like refl

          load_ready : IsReady t r base e.view
          load_ready = record {
            stack = like.registers t.sp ∙ load_keeps t.sp low ∙ ready.stack;
            size = load_stays.size ∙ ready.size;
            reach = λ b h. load_stays.reach b ∙ ready.reach b h;
            words = words_like t.word load ms z load_done e made like placed.target.size ready.words load_words (subst AreBytes (sym like.input) ready.bytes);
            bytes = subst AreBytes (sym like.input) ready.bytes;
            next = shows_input t.word load ms z load_done e made like;
          }

          load_got : IsLoaded t r base register (k ∷ []) z e.view
          load_got = record {
            got = λ j h. subst (λ i. e.view.cells (Hard (register i)) ≡ word_at z.bytes (home_address t r base i) wb) (only k j h) (like.registers (register k) ∙ load_gives);
            others = λ n h. like.registers n ∙ load_keeps n (h k (among_here k []));
            temps = like.temps;
            bytes = like.bytes;
            stays = load_stays;
          }

        -- ---- a store

        abbrev store : List Move
        store = store_moves t.sp (register k) (home_offset t r k)

        abbrev stored_at : Patch
        stored_at = record { at = a; count = t.word / 8; value = z.cells (Hard (register k)) }

        abbrev store_done : Done
        store_done = record { view = view_after t.word store (Some stored_at) z; place = z.cells Pc; output = None; halt = None }

        store_effect : effect t.word store z ≡ Ok store_done
        store_effect =
            effect_is t.word store z (Some stored_at) (ap (λ s. bind (done s) (λ x. tested t.word [] z)) place_is) refl refl refl
            (ap (λ x. bind x (λ b. Ok (Some (record { at = b; count = t.word / 8; value = z.cells (Hard (register k)) })))) place_is)

        store_words : IsWordView t.word (view_after t.word store (Some stored_at) z)
        store_words = (words_are_kept t.word store z store_done placed.target.size ready.words ready.bytes (All-cons (IsMoveFitting t.word) _ [] ((tt, offset_small), tt) (All-nil (IsMoveFitting t.word))) store_effect).0

        store_elsewhere : (b : ℕ) → (b < a) ⊎ (a + wb ≤ b) → store_done.view.bytes b ≡ z.bytes b
        store_elsewhere b (inl l) = ap (λ x. cond x (byte_of (z.cells (Hard (register k))) (b - a)) (z.bytes b)) (outside_below a (a + t.word / 8) b l)
        store_elsewhere b (inr l) = ap (λ x. cond x (byte_of (z.cells (Hard (register k))) (b - a)) (z.bytes b)) (outside_above a (a + t.word / 8) b l)

        module _ (ms : List Move) (e : Done) (made : effect t.word ms z ≡ Ok e) (like : IsSameBut store store_done e) where
          abbrev store_stays : Stays z e.view
          store_stays = stays_with t.word store ms z store_done e made like refl

          store_ready : IsReady t r base e.view
          store_ready = record {
            stack = like.registers t.sp ∙ ready.stack;
            size = store_stays.size ∙ ready.size;
            reach = λ b h. store_stays.reach b ∙ ready.reach b h;
            words = words_like t.word store ms z store_done e made like placed.target.size ready.words store_words (subst AreBytes (sym like.input) ready.bytes);
            bytes = subst AreBytes (sym like.input) ready.bytes;
            next = shows_input t.word store ms z store_done e made like;
          }

          store_back : (n : ℕ) → z.cells (Hard (register k)) ≡ Some n → word_at e.view.bytes a wb ≡ Some n
          store_back n f =
              bytes_word n e.view.bytes a wb (λ j l. like.bytes (a + j) ∙ ap (λ x. cond x (byte_of (z.cells (Hard (register k))) (a + j - a)) (z.bytes (a + j))) (inside_of a (a + wb) (a + j) (omega arith) (omega (arith, l)))
              ∙ ap (λ x. byte_of x (a + j - a)) f ∙ (let g : a + j - a ≡ j = omega arith in ap (λ i. Some (n / 256 ^ i % 256)) g))
              ∙ ap Some (mod-eq_of_lt (by_size (λ w. n < 2 ^ w → n < 256 ^ (w / 8)) (λ l. omega (arith, l)) (λ l. omega (arith, l)) t.word placed.target.size (ready.words.cells (Hard (register k)) n f)))

          store_got : IsStored t r base register (k ∷ []) z e.view
          store_got = record {
            got = λ j n h. subst (λ i. z.cells (Hard (register i)) ≡ Some n → word_at e.view.bytes (home_address t r base i) wb ≡ Some n) (only k j h) (store_back n);
            registers = like.registers;
            temps = like.temps;
            elsewhere = λ b h. like.bytes b ∙ store_elsewhere b (h k (among_here k []));
            stays = store_stays;
          }

        -- ---- each as a whole

        pub one_load : (ms : List Move) → register k ≢ t.sp → DoesAs t.word load ms
            → (e : Done) × (effect t.word ms z ≡ Ok e) × (e.output ≡ None) × (e.halt ≡ None) × IsLoaded t r base register (k ∷ []) z e.view × IsReady t r base e.view
        one_load ms low does =
            let x = does.does z load_done ready.words load_effect in
            (x.0, x.1, x.2.output, x.2.halt, load_got ms low x.0 x.1 x.2, load_ready ms low x.0 x.1 x.2)

        pub one_store : (ms : List Move) → DoesAs t.word store ms
            → (e : Done) × (effect t.word ms z ≡ Ok e) × (e.output ≡ None) × (e.halt ≡ None) × IsStored t r base register (k ∷ []) z e.view × IsReady t r base e.view
        one_store ms does =
            let x = does.does z store_done ready.words store_effect in
            (x.0, x.1, x.2.output, x.2.halt, store_got ms x.0 x.1 x.2, store_ready ms x.0 x.1 x.2)
