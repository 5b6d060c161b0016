-- What the added transfers do on the machine.
use Rattle.std.proofs.Common.{◌≡◌, ◌≢◌, ℕ, suc, ◌+◌, ◌-◌, ◌*◌, ◌/◌, ◌%◌, ◌^◌, ◌<◌, ◌≤◌, ◌==◌, Bool, true, false, cond, List, ◌∷◌, Option, Some, None, Result, Ok, Err, refl, sym, ap, ◌∙◌, subst, arith, inl, inr}
use Rattle.std.specs.Prelude.{nat_le, ◌⊎◌}
use Rattle.std.proofs.lemmas.Bool.{eqb-true, eq-eqb, le-leb}
use Rattle.std.proofs.lemmas.Nat.{mod-mul-add}
use Rattle.rtl_word.specs.Words.{word_add}
use Rattle.rtl_tree.specs.Trees.{Tree, Number, Read, Load}
use Rattle.rtl_tree.specs.declared.cells.Cell.TheVariants.{Hard, Pc, Output, Halt}
use Rattle.rtl_tree.specs.declared.expressions.Width.TheVariants.{Full}
use Rattle.rtl_tree.specs.declared.expressions.BinOp.TheVariants.{Add}
use Rattle.rtl_value.specs.declared.state.Trap.TheVariants.{Address, Align}
use Rattle.behaviour.specs.Steps.{Goes, Stops}
use Rattle.rtl_effect.specs.Views.{Stop, Traps, Wild, View, bind, word_at, all_reached, width_of, touched, binary_on, load_on, seen}
use Rattle.rtl_effect.specs.Effects.{place_at, aimed, needed, assigned, storing, takes, done, tested, event, went, place_of, Patch, patch_of, patched, byte_of, plain, cell_after, input_after, view_after, Done, effect}
use Rattle.temp_machine.specs.Routines.{Routine, Target, word_bytes}
use Rattle.temp_machine.specs.Machine.{printed_with}
use Rattle.link_code.proofs.Memory.{inside_of, outside_below, outside_above, reached_all, bytes_word}
use Rattle.rtl_tree.specs.declared.cells.Lab.TheVariants.{Function}
use Rattle.link_code.specs.Linked.{Transfer, Job, above, minus, set_stack, move_stack, calling, going_back, save, fetch, finish}
use Rattle.link_code.proofs.Labels.{label_place}
use Rattle.link_code.proofs.Machine.{Mach, view_of, mach_with, ends, turn, turned, step}
use Rattle.link_code.specs.Runs.{TransferFitting, IsLinkable, DoesAs, SameButFlags}
use Rattle.link_code.proofs.Places.{Here, here_get, here_short}
use Rattle.link_code.proofs.Wording.{Words, word_view, words_after}

abbrev pub ret_off : Target → Option ℕ → Routine → ℕ
ret_off t (Some z) c = c.first_home - (word_bytes t)
ret_off t None c = c.frame

-- a transfer that prints nothing and doesn't end the run
effect_of : (w : ℕ) (ms : Transfer) (v : View) (q : Option ℕ) (p : Option Patch) → tested w ms v ≡ Ok tt → event w (assigned ms Output) v ≡ Ok None → event w (assigned ms Halt) v ≡ Ok None
    → went w (assigned ms Pc) v ≡ Ok q → patch_of w (storing ms) v ≡ Ok p → effect w ms v ≡ Ok (record { view = view_after w ms p v; place = q; output = None; halt = None })
effect_of w ms v q p a b c d e =
    λ i. bind (a i) (λ x. bind (b i) (λ o. bind (c i) (λ h. bind (d i) (λ q. bind (e i) (λ p. Ok (record { view = view_after w ms p v; place = q; output = o; halt = h }))))))

not_equal : (m n : ℕ) → m ≢ n → (m == n) ≡ false
not_equal m n h = by (m == n) refl
  where
    by : (b : Bool) → (m == n) ≡ b → b ≡ false
    by true e = absurd (h (eqb-true m n e))
    by false e = refl

module _ (j : Job) (is : IsLinkable j) where
  abbrev w : ℕ
  w = j.t.word

  abbrev wb : ℕ
  wb = word_bytes j.t

  abbrev sp : ℕ
  sp = j.t.sp

  width_is : w / 8 ≡ wb
  width_is = refl

  pub by_wb : (P : ℕ → Type 0) → P 2 → P 4 → P wb
  by_wb P two four = by is.sized
    where
      by : (w ≡ 16) ⊎ (w ≡ 32) → P (w / 8)
      by (inl e) = subst (λ n. P (n / 8)) (sym e) two
      by (inr e) = subst (λ n. P (n / 8)) (sym e) four

  pow_is : 256 ^ wb ≡ 2 ^ w
  pow_is = by is.sized
    where
      by : (w ≡ 16) ⊎ (w ≡ 32) → 256 ^ (w / 8) ≡ 2 ^ w
      by (inl e) = subst (λ n. 256 ^ (n / 8) ≡ 2 ^ n) (sym e) refl
      by (inr e) = subst (λ n. 256 ^ (n / 8) ≡ 2 ^ n) (sym e) refl

  pub up : (a n : ℕ) → a + n < 2 ^ w → word_add w a n ≡ a + n
  up a n h = let e : a + n ≡ 0 * 2 ^ w + (a + n) = omega arith in ap (λ k. k % 2 ^ w) e ∙ mod-mul-add 0 (2 ^ w) (a + n) h

  pub down : (a n : ℕ) → n ≤ a → a < 2 ^ w → word_add w a (minus j.t n) ≡ a - n
  down a n h k = let e : a + (2 ^ w - n) ≡ 1 * 2 ^ w + (a - n) = omega (arith, h, k) in ap (λ x. x % 2 ^ w) e ∙ mod-mul-add 1 (2 ^ w) (a - n) (omega (arith, h, k))

  pub wb_word : wb < 2 ^ w
  wb_word = by is.sized
    where
      by : (w ≡ 16) ⊎ (w ≡ 32) → w / 8 < 2 ^ w
      by (inl e) = subst (λ n. n / 8 < 2 ^ n) (sym e) (omega arith)
      by (inr e) = subst (λ n. n / 8 < 2 ^ n) (sym e) (omega arith)

  pub wb_some : 0 < wb
  wb_some = by_wb (λ n. 0 < n) (omega arith) (omega arith)

  minus_word : minus j.t wb < 2 ^ w
  minus_word = let a = wb_word in let b = wb_some in omega (arith, a, b)

  touch_word : (m : Mach) (a : ℕ) → a % wb ≡ 0 → a + wb ≤ j.t.memory → touched (width_of w Full) (view_of j m) (Some a) ≡ Ok a
  touch_word m a h k =
      subst (λ n. touched n (view_of j m) (Some a) ≡ Ok a) (sym width_is)
      (let p : nat_le (a + wb) j.t.memory ≡ true = le-leb _ _ k in
      let q : (a % wb == 0) ≡ true = eq-eqb _ _ h in
      let r : all_reached (λ b. true) a wb ≡ true = reached_all (λ b. true) a wb (λ b x y. refl) in
      λ i. cond (p i) (cond (q i) (cond (r i) (Ok a) (Err Wild)) (Err (Traps Align))) (Err (Traps Address)))

  -- a word that is stored
  abbrev pub stored : ℕ → Option ℕ → (ℕ → Option ℕ) → ℕ → Option ℕ
  stored a x m = patched (Some (record { at = a; count = width_of w Full; value = x })) m

  pub stored_other : (a : ℕ) (x : Option ℕ) (m : ℕ → Option ℕ) (b : ℕ) → (b < a) ⊎ (a + wb ≤ b) → stored a x m b ≡ m b
  stored_other a x m b (inl h) = ap (λ c. cond c (byte_of x (b - a)) (m b)) (outside_below a (a + w / 8) b h)
  stored_other a x m b (inr h) = ap (λ c. cond c (byte_of x (b - a)) (m b)) (outside_above a (a + w / 8) b (omega (arith, h, width_is)))

  pub stored_word : (a x : ℕ) (m : ℕ → Option ℕ) → x < 2 ^ w → word_at (stored a (Some x) m) a wb ≡ Some x
  stored_word a x m h =
      bytes_word x (stored a (Some x) m) a wb (λ k l.
      let d : a + k - a ≡ k = omega arith in
      ap (λ c. cond c (byte_of (Some x) (a + k - a)) (m (a + k))) (inside_of a (a + w / 8) (a + k) (omega arith) (omega (arith, l, width_is))) ∙ ap (λ n. Some (x / 256 ^ n % 256)) d)
      ∙ ap Some (ap (λ p. x % p) pow_is ∙ small)
    where
      small : x % 2 ^ w ≡ x
      small = let e : x ≡ 0 * 2 ^ w + x = omega arith in ap (λ k. k % 2 ^ w) e ∙ mod-mul-add 0 (2 ^ w) x h

  -- one added transfer was made: a register becomes x
  pub record Glued (m : Mach) (q r : ℕ) (x : Option ℕ) (b : ℕ → Option ℕ) : Type 0 where
    pub to : Mach
    pub goes : step j m ≡ Goes to
    pub place : to.place ≡ q
    pub set : to.regs r ≡ x
    pub kept : (n : ℕ) → n ≢ r → to.regs n ≡ m.regs n
    pub bytes : (a : ℕ) → to.bytes a ≡ b a
    pub input : to.input ≡ m.input
    pub out : to.out ≡ m.out
    pub words : Words j is to

  module _ (m : Mach) (wordy : Words j is m) (line ms : Transfer) (fits : TransferFitting j.t.word ms) (like : DoesAs j.t.word line ms) (xs : List Transfer) (next : ℕ) (here : Here j m.place (line ∷ xs) next) (q : ℕ) (p : Option Patch)
      (does : effect w ms (view_of j m) ≡ Ok (record { view = view_after w ms p (view_of j m); place = Some q; output = None; halt = None })) (rests : takes ms ≡ false) where
    small : suc m.place < 2 ^ j.t.word
    small = let l = here_short j m.place line xs next here in let q = is.short in omega (arith, l, q)

    abbrev made_as : (e : Done) × (effect w line (view_of j m) ≡ Ok e) × SameButFlags (record { view = view_after w ms p (view_of j m); place = Some q; output = None; halt = None }) e
    made_as = like (view_of j m) (record { view = view_after w ms p (view_of j m); place = Some q; output = None; halt = None }) (word_view j is m wordy small) (λ l. refl) does

    abbrev got : View
    got = (made_as.0).view

    step_is : step j m ≡ Goes (mach_with j got q m.out)
    step_is =
        ap (turn j m) (here_get j m.place line xs next here) ∙ ap (turned j m) made_as.1
        ∙ (λ i. ends j (made_as.2.halt i) (made_as.2.place i) got (printed_with m.out (made_as.2.output i)))

    glued_by : (r : ℕ) (e : Tree) (x : Option ℕ) → ((n : ℕ) → assigned ms (Hard n) ≡ cond (r == n) (Some e) None) → seen w e (view_of j m) ≡ Ok x → Glued m q r x (patched p m.bytes)
    glued_by r e x sets is_seen = record {
      to = mach_with j got q m.out;
      goes = step_is;
      place = refl;
      set = made_as.2.regs r ∙ ap (λ o. cell_after w o (view_of j m) (m.regs r)) (sets r ∙ ap (λ b. cond b (Some e) None) (eq-eqb r r refl)) ∙ ap plain is_seen;
      kept = λ n h. made_as.2.regs n ∙ ap (λ o. cell_after w o (view_of j m) (m.regs n)) (sets n ∙ ap (λ b. cond b (Some e) None) (not_equal r n (λ i. h (sym i))));
      bytes = made_as.2.bytes;
      input = made_as.2.input ∙ ap (λ b. input_after b m.input) rests;
      out = refl;
      words = words_after j is m (mach_with j got q m.out) ms p wordy small fits made_as.2.regs made_as.2.bytes made_as.2.input;
    }

    glued_none : (r : ℕ) → ((n : ℕ) → assigned ms (Hard n) ≡ None) → Glued m q r (m.regs r) (patched p m.bytes)
    glued_none r sets = record {
      to = mach_with j got q m.out;
      goes = step_is;
      place = refl;
      set = made_as.2.regs r ∙ ap (λ o. cell_after w o (view_of j m) (m.regs r)) (sets r);
      kept = λ n h. made_as.2.regs n ∙ ap (λ o. cell_after w o (view_of j m) (m.regs n)) (sets n);
      bytes = made_as.2.bytes;
      input = made_as.2.input ∙ ap (λ b. input_after b m.input) rests;
      out = refl;
      words = words_after j is m (mach_with j got q m.out) ms p wordy small fits made_as.2.regs made_as.2.bytes made_as.2.input;
    }

  module _ (m : Mach) (wordy : Words j is m) (a : ℕ) (stack : m.regs sp ≡ Some a) where
    see_above : (n b : ℕ) → word_add w a n ≡ b → seen w (above j.t n) (view_of j m) ≡ Ok (Some b)
    see_above n b e = (λ i. binary_on w Add (Ok (stack i)) (Ok (Some n))) ∙ ap (λ x. let r : Result (Option ℕ) Stop = Ok (Some x) in r) e

    place_above : (n b : ℕ) → word_add w a n ≡ b → b % wb ≡ 0 → b + wb ≤ j.t.memory → place_of w Full (above j.t n) (view_of j m) ≡ Ok b
    place_above n b e h k = ap (λ r. bind r (touched (width_of w Full) (view_of j m))) (see_above n b e) ∙ touch_word m b h k

    load_above : (n b : ℕ) (x : Option ℕ) → word_add w a n ≡ b → b % wb ≡ 0 → b + wb ≤ j.t.memory → word_at m.bytes b wb ≡ x → seen w (Load Full (above j.t n)) (view_of j m) ≡ Ok x
    load_above n b x e h k is_word =
        ap (λ r. load_on (width_of w Full) (view_of j m) r) (see_above n b e)
        ∙ ap (λ r. bind r (λ c. Ok (word_at m.bytes c (width_of w Full)))) (touch_word m b h k)
        ∙ ap (λ n. let r : Result (Option ℕ) Stop = Ok (word_at m.bytes b n) in r) width_is ∙ ap (λ y. let r : Result (Option ℕ) Stop = Ok y in r) is_word

    pub moves : (n b : ℕ) → n < 2 ^ j.t.word → (xs : List Transfer) (next : ℕ) → Here j m.place (j.glue.move_stack n ∷ xs) next → word_add w a n ≡ b → Glued m (suc m.place) sp (Some b) m.bytes
    moves n b fit xs next here e =
        glued_by m wordy (j.glue.move_stack n) (move_stack j.t n) ((tt, (tt, fit)), tt) (is.glued.move_stack n) xs next here (suc m.place) None
        (effect_of w (move_stack j.t n) (view_of j m) _ None (λ i. bind (done (see_above n b e i)) (λ x. Ok tt)) refl refl refl refl) refl sp (above j.t n) (Some b) (λ k. refl) (see_above n b e)

    pub pushes : (none : j.t.link ≡ None) (g b : ℕ) (line : Transfer) → DoesAs j.t.word line (calling j.t j.t.link g) → (xs : List Transfer) (next : ℕ) → Here j m.place (line ∷ xs) next → word_add w a (minus j.t wb) ≡ b → b % wb ≡ 0 → b + wb ≤ j.t.memory
        → Glued m (label_place j (Function g)) sp (Some b) (stored b (Some (suc m.place)) m.bytes)
    pushes none g b line does xs next here e h k =
        glued_by m wordy line (calling j.t None g) (((tt, minus_word), tt), ((tt, (tt, minus_word)), ((tt, tt), tt))) (subst (λ o. DoesAs j.t.word line (calling j.t o g)) none does) xs next here (label_place j (Function g)) (Some (record { at = b; count = width_of w Full; value = Some (suc m.place) }))
        (effect_of w (calling j.t None g) (view_of j m) _ _
        (λ i. bind (done (place_above (minus j.t wb) b e h k i)) (λ x. bind (done (see_above (minus j.t wb) b e i)) (λ x. Ok tt))) refl refl refl
        (λ i. bind (place_above (minus j.t wb) b e h k i) (λ a. Ok (Some (record { at = a; count = width_of w Full; value = Some (suc m.place) })))))
        refl sp (above j.t (minus j.t wb)) (Some b) (λ k. refl) (see_above (minus j.t wb) b e)

    pub saves : (z n b : ℕ) → n < 2 ^ j.t.word → j.t.link ≡ Some z → (xs : List Transfer) (next : ℕ) → Here j m.place (j.glue.save n ∷ xs) next → word_add w a n ≡ b → b % wb ≡ 0 → b + wb ≤ j.t.memory
        → Glued m (suc m.place) sp (m.regs sp) (stored b (m.regs z) m.bytes)
    saves z n b fit some xs next here e h k =
        glued_none m wordy (j.glue.save n) (save j.t z n) (((tt, fit), tt), tt) (is.glued.save z n some) xs next here (suc m.place) (Some (record { at = b; count = width_of w Full; value = m.regs z }))
        (effect_of w (save j.t z n) (view_of j m) _ _
        (λ i. bind (done (place_above n b e h k i)) (λ x. Ok tt)) refl refl refl
        (λ i. bind (place_above n b e h k i) (λ a. Ok (Some (record { at = a; count = width_of w Full; value = m.regs z })))))
        refl sp (λ k. refl)

    pub fetches : (z n b : ℕ) (x : Option ℕ) → n < 2 ^ j.t.word → j.t.link ≡ Some z → (xs : List Transfer) (next : ℕ) → Here j m.place (j.glue.fetch n ∷ xs) next → word_add w a n ≡ b → b % wb ≡ 0 → b + wb ≤ j.t.memory → word_at m.bytes b wb ≡ x
        → Glued m (suc m.place) z x m.bytes
    fetches z n b x fit some xs next here e h k is_word =
        glued_by m wordy (j.glue.fetch n) (fetch j.t z n) ((tt, (tt, fit)), tt) (is.glued.fetch z n some) xs next here (suc m.place) None
        (effect_of w (fetch j.t z n) (view_of j m) _ None (λ i. bind (done (load_above n b x e h k is_word i)) (λ x. Ok tt)) refl refl refl refl)
        refl z (Load Full (above j.t n)) x (λ k. refl) (load_above n b x e h k is_word)

    pub pops : (none : j.t.link ≡ None) (b back : ℕ) (xs : List Transfer) (next : ℕ) → Here j m.place (j.glue.going_back ∷ xs) next → word_add w a wb ≡ b → a % wb ≡ 0 → a + wb ≤ j.t.memory → word_at m.bytes a wb ≡ Some back
        → Glued m back sp (Some b) m.bytes
    pops none b back xs next here e h k is_word =
        glued_by m wordy j.glue.going_back (going_back j.t None) ((tt, tt), ((tt, (tt, wb_word)), tt)) (subst (λ o. DoesAs j.t.word j.glue.going_back (going_back j.t o)) none is.glued.going_back) xs next here back None
        (effect_of w (going_back j.t None) (view_of j m) (Some back) None
        (λ i. bind (done (bind (bind (loaded i) (λ x. Ok (place_at (view_of j m) x))) aimed)) (λ x. bind (done (see_above wb b e i)) (λ x. Ok tt))) refl refl
        (λ i. bind (bind (loaded i) (λ x. Ok (place_at (view_of j m) x))) aimed) refl)
        refl sp (above j.t wb) (Some b) (λ k. refl) (see_above wb b e)
      where
        loaded : seen w (Load Full (Read (Hard sp))) (view_of j m) ≡ Ok (Some back)
        loaded =
            ap (λ r. bind (touched (width_of w Full) (view_of j m) r) (λ c. Ok (word_at m.bytes c (width_of w Full)))) stack
            ∙ ap (λ r. bind r (λ c. Ok (word_at m.bytes c (width_of w Full)))) (touch_word m a h k)
            ∙ ap (λ n. let r : Result (Option ℕ) Stop = Ok (word_at m.bytes a n) in r) width_is ∙ ap (λ y. let r : Result (Option ℕ) Stop = Ok y in r) is_word

  pub links : (m : Mach) → Words j is m → (z g : ℕ) → j.t.link ≡ Some z → (line : Transfer) → DoesAs j.t.word line (calling j.t j.t.link g) → (xs : List Transfer) (next : ℕ) → Here j m.place (line ∷ xs) next → Glued m (label_place j (Function g)) z (Some (suc m.place)) m.bytes
  links m wordy z g some line does xs next here =
      glued_by m wordy line (calling j.t (Some z) g) ((tt, tt), ((tt, tt), tt)) (subst (λ o. DoesAs j.t.word line (calling j.t o g)) some does) xs next here (label_place j (Function g)) None (effect_of w (calling j.t (Some z) g) (view_of j m) _ None refl refl refl refl refl) refl z (Read Pc) (Some (suc m.place)) (λ k. refl) refl

  pub returns : (m : Mach) → Words j is m → (z back : ℕ) → j.t.link ≡ Some z → (xs : List Transfer) (next : ℕ) → Here j m.place (j.glue.going_back ∷ xs) next → m.regs z ≡ Some back → Glued m back sp (m.regs sp) m.bytes
  returns m wordy z back some xs next here e =
      glued_none m wordy j.glue.going_back (going_back j.t (Some z)) ((tt, tt), tt) (subst (λ o. DoesAs j.t.word j.glue.going_back (going_back j.t o)) some is.glued.going_back) xs next here back None
      (effect_of w (going_back j.t (Some z)) (view_of j m) (Some back) None (λ i. bind (done (aimed (place_at (view_of j m) (e i)))) (λ x. Ok tt)) refl refl (λ i. aimed (place_at (view_of j m) (e i))) refl) refl sp (λ k. refl)

  pub sets_stack : (m : Mach) → Words j is m → (xs : List Transfer) (next : ℕ) → Here j m.place (j.glue.set_stack ∷ xs) next → Glued m (suc m.place) sp (Some j.t.memory) m.bytes
  sets_stack m wordy xs next here =
      glued_by m wordy j.glue.set_stack (set_stack j.t) ((tt, is.memory_small), tt) is.glued.set_stack xs next here (suc m.place) None (effect_of w (set_stack j.t) (view_of j m) _ None refl refl refl refl refl) refl sp (Number j.t.memory) (Some j.t.memory) (λ k. refl) refl

  pub finishes : (m : Mach) → Words j is m → (v : ℕ) (xs : List Transfer) (next : ℕ) → Here j m.place (j.glue.finish ∷ xs) next → m.regs j.t.result ≡ Some v → step j m ≡ Stops m.out (v % 256)
  finishes m wordy v xs next here e =
      ap (turn j m) (here_get j m.place j.glue.finish xs next here) ∙ ap (turned j m) finished.1
      ∙ (λ i. ends j (finished.2.halt i) (finished.2.place i) (finished.0).view (printed_with m.out (finished.2.output i)))
    where
      does : effect w (finish j.t) (view_of j m) ≡ Ok (record { view = view_after w (finish j.t) None (view_of j m); place = Some (suc m.place); output = None; halt = Some (v % 256) })
      does = λ i. bind (bind (done (bind (Ok (e i)) needed)) (λ x. Ok tt)) (λ x. bind (bind (bind (Ok (e i)) needed) (λ n. Ok (Some (n % 256)))) (λ h. Ok (record { view = view_after w (finish j.t) None (view_of j m); place = Some (suc m.place); output = None; halt = h })))

      finished : (d : Done) × (effect w j.glue.finish (view_of j m) ≡ Ok d) × SameButFlags (record { view = view_after w (finish j.t) None (view_of j m); place = Some (suc m.place); output = None; halt = Some (v % 256) }) d
      finished = is.glued.finish (view_of j m) (record { view = view_after w (finish j.t) None (view_of j m); place = Some (suc m.place); output = None; halt = Some (v % 256) }) (word_view j is m wordy (let l = here_short j m.place j.glue.finish xs next here in let q = is.short in omega (arith, l, q))) (λ l. refl) does
