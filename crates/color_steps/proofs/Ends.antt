-- Where a block ends: a return to a caller, and a callee that is entered.
use Rattle.std.proofs.Common.{◌≡◌, ℕ, ◌+◌, ◌-◌, ◌*◌, ◌%◌, ◌^◌, ◌<◌, ◌≤◌, ◌==◌, ◌&&◌, Bool, true, false, cond, List, Option, Some, None, refl, sym, ap, subst, arith, inl, inr}
use Rattle.std.specs.Prelude.{◌⊎◌}
use Rattle.std.specs.List.{list_any}
use Rattle.std.proofs.lemmas.Bool.{eqb-true, eq-eqb}
use Rattle.rtl_tree.specs.declared.cells.Cell.TheVariants.{Hard}
use Rattle.behaviour.specs.Run.{AreBytes}
use Rattle.behaviour.specs.Steps.{MovesAlike}
use Rattle.rtl_effect.specs.Views.{View, Gone}
use Rattle.rtl_effect.specs.Agree.{Tells, blank, word, gone}
use Rattle.temp_machine.specs.Routines.{word_bytes, pushed, pushed_by}
use Rattle.temp_machine.specs.Machine.{Waiting, is_between, is_kept, unset_between, ended, returned, register_after}
use Rattle.temp_machine.specs.Cells.{has_temporaries}
use Rattle.color_spilling.proofs.Memory.{and_right, inside_of, inside_low, inside_high, outside_above}
use Rattle.color_spilling.proofs.Steps.{by_bytes}
use Rattle.color_holding.specs.Holding.{is_free}
use Rattle.color_steps.proofs.Frames.{Job, wait, routine, Stands, framed, Chain, bottom, link, chain_low}
use Rattle.color_steps.proofs.States.{Content, content_of, AreWords, held, Begins, Related, related}

module _ (j : Job) where
  none_kept : (n : ℕ) → is_kept j.t n ≡ false
  none_kept n = ap (λ xs. list_any (λ k. k == n) xs) j.is.none_kept

  below : (low high : ℕ) → low < high → (x : ℕ) → Some low ≡ Some x → x < high
  below low high l x e = let k : low ≡ x = cc in subst (λ (z : ℕ). z < high) k l

  pub not_free : (f n : ℕ) → j.t.general n ≡ false → is_free j.t (routine j f) n ≡ false
  not_free f n e = ap (λ b. b && has_temporaries (routine j f)) e

  ended_alike : (out : List ℕ) (a b : Option ℕ) → Tells a b → MovesAlike (Related j) (ended out a) (ended out b)
  ended_alike out a b (blank y) = tt
  ended_alike out a b (word n) = (refl, refl)

  -- a return to the first of the callers
  module _ (x y : View) (out : List ℕ) (tells : Tells (x.cells (Hard j.t.result)) (y.cells (Hard j.t.result))) (on_bytes : (a : ℕ) → Tells (x.bytes a) (y.bytes a)) (on_input : x.input ≡ y.input)
      (words : AreWords j.t.word (content_of x)) (new_words : AreWords j.t.word (content_of y)) where
    abbrev back : Waiting → (ℕ → Option ℕ) → View → Content
    back c temps v = record { regs = register_after j.t j.old c v; temps = temps; flags = λ n. Gone; bytes = v.bytes; input = v.input }

    tell : (a b e : Bool) (low n : ℕ) (r r' : Option ℕ) → b ≡ false → (e ≡ true → n ≡ j.t.result)
        → Tells (cond a (Some low) (cond b r (cond e (x.cells (Hard n)) None))) (cond a (Some low) (cond b r' (cond e (y.cells (Hard n)) None)))
    tell true b e low n r r' p q = word low
    tell false true e low n r r' p q = absurd (let k : true ≡ false = p in cc)
    tell false false true low n r r' p q = subst (λ m. Tells (x.cells (Hard m)) (y.cells (Hard m))) (sym (q refl)) tells
    tell false false false low n r r' p q = blank None

    small : (v : View) → AreWords j.t.word (content_of v) → (a b e : Bool) (low n : ℕ) (r : Option ℕ) → low < 2 ^ j.t.word → b ≡ false
        → (m : ℕ) → cond a (Some low) (cond b r (cond e (v.cells (Hard n)) None)) ≡ Some m → m < 2 ^ j.t.word
    small v w true b e low n r l p m q = below low (2 ^ j.t.word) l m q
    small v w false true e low n r l p m q = absurd (let k : true ≡ false = p in cc)
    small v w false false true low n r l p m q = w.regs n m q
    small v w false false false low n r l p m q = absurd (let k : None ≡ Some m = q in cc)

    back_words : (v : View) → AreWords j.t.word (content_of v) → (g k low : ℕ) (temps regs : ℕ → Option ℕ) → low < 2 ^ j.t.word → ((i n : ℕ) → temps i ≡ Some n → n < 2 ^ j.t.word)
        → AreWords j.t.word (back (wait g k low temps regs) temps v)
    back_words v w g k low temps regs l ts = record {
      regs = λ n m e. small v w (n == j.t.sp) (is_kept j.t n) (n == j.t.result) low n (regs n) l (none_kept n) m e;
      temps = ts;
      bytes = w.bytes;
      fed = w.fed;
    }

    pub goes_back : (params high : ℕ) (cs ds : List Waiting) → Chain j x.bytes y.bytes params high cs ds → MovesAlike (Related j) (returned j.t j.old cs x out) (returned j.t j.new ds y out)
    goes_back params high cs ds (bottom p h e) = ended_alike out _ _ tells
    goes_back params high cs ds (link p g k low temps temps' regs regs' cs' ds' w o rest) =
        related g k low cs' ds' (back (wait g k low temps regs) temps x) (back (wait g k low temps' regs') temps' y) out
        (record {
          stands = w.stands;
          chain = rest;
          aligned = w.aligned;
          temps = λ i e. subst (λ s. Tells (temps i) (held j g low s i (back (wait g k low temps' regs') temps' y))) (sym (w.seated i e)) (w.homes i e);
          registers = λ n e. tell (n == j.t.sp) (is_kept j.t n) (n == j.t.result) low n (regs n) (regs' n) (none_kept n) (λ q. eqb-true n j.t.result q);
          flags = λ n e. gone Gone;
          bytes = on_bytes;
          input = on_input;
          words = back_words x words g k low temps regs low_small w.words;
          new_words = back_words y new_words g k low temps' regs' low_small w.new_words;
          stack = ap (λ b. cond b (Some low) (cond (is_kept j.t j.t.sp) (regs' j.t.sp) (cond (j.t.sp == j.t.result) (y.cells (Hard j.t.sp)) None))) (eq-eqb j.t.sp j.t.sp refl);
          blank = w.blank;
        })
      where
        low_small : low < 2 ^ j.t.word
        low_small = let c = chain_low j x.bytes y.bytes _ _ cs' ds' rest in let m = j.is.target.memory in omega (arith, c, m)

  -- a function is entered with its frame below an address
  module _ (g from : ℕ) (stands : Stands j g) (fits : (routine j g).frame + pushed j.t ≤ from) (aligned : from % word_bytes j.t ≡ 0) (top : from ≤ j.t.memory) (v z : ℕ → Option ℕ) (input input' : List ℕ) where
    abbrev pub low_of : ℕ
    low_of = from - ((routine j g).frame + pushed j.t)

    abbrev pub cut : (ℕ → Option ℕ) → ℕ → Option ℕ
    cut m = unset_between low_of from m

    abbrev pub fresh : (ℕ → Option ℕ) → List ℕ → Content
    fresh m i = record { regs = λ n. cond (n == j.t.sp) (Some low_of) None; temps = λ n. None; flags = λ n. Gone; bytes = cut m; input = i }

    pub cut_above : (m : ℕ → Option ℕ) (a : ℕ) → from ≤ a → cut m a ≡ m a
    cut_above m a l = ap (λ b. cond b None (m a)) (outside_above low_of from a l)

    abbrev IsCutWell : ℕ → ℕ → Type 0
    IsCutWell p n = from % n ≡ 0 → (routine j g).frame % n ≡ 0 → (from - ((routine j g).frame + p)) % n ≡ 0

    is_pushed : (o : Option ℕ) → (pushed_by o (word_bytes j.t) ≡ 0) ⊎ (pushed_by o (word_bytes j.t) ≡ word_bytes j.t)
    is_pushed None = inr refl
    is_pushed (Some n) = inl refl

    cut_well : (p : ℕ) → (p ≡ 0) ⊎ (p ≡ word_bytes j.t) → IsCutWell p (word_bytes j.t)
    cut_well p (inl e) = by_bytes (λ n. IsCutWell p n) (λ x y. omega (arith, x, y, e)) (λ x y. omega (arith, x, y, e)) j.t.word j.is.target.size
    cut_well p (inr e) = by_bytes (λ n. p ≡ n → IsCutWell p n) (λ q x y. omega (arith, x, y, q)) (λ q x y. omega (arith, x, y, q)) j.t.word j.is.target.size e

    low_aligned : low_of % word_bytes j.t ≡ 0
    low_aligned = cut_well (pushed j.t) (is_pushed j.t.link) aligned (framed j g stands).frame_words

    low_small : low_of < 2 ^ j.t.word
    low_small = let m = j.is.target.memory in omega (arith, top, m)

    tells_cut : (b : Bool) (x y : Option ℕ) → Tells x y → Tells (cond b None x) (cond b None y)
    tells_cut true x y e = blank None
    tells_cut false x y e = e

    tells_stack : (b : Bool) → Tells (cond b (Some low_of) None) (cond b (Some low_of) None)
    tells_stack true = word low_of
    tells_stack false = blank None

    stack_small : (b : Bool) (x : ℕ) → cond b (Some low_of) None ≡ Some x → x < 2 ^ j.t.word
    stack_small true x e = below low_of (2 ^ j.t.word) low_small x e
    stack_small false x e = absurd (let k : None ≡ Some x = e in cc)

    bytes_small : (m : ℕ → Option ℕ) → ((a x : ℕ) → m a ≡ Some x → x < 256) → (b : Bool) (a x : ℕ) → cond b None (m a) ≡ Some x → x < 256
    bytes_small m h true a x e = absurd (let k : None ≡ Some x = e in cc)
    bytes_small m h false a x e = h a x e

    fresh_words : (m : ℕ → Option ℕ) (i : List ℕ) → ((a x : ℕ) → m a ≡ Some x → x < 256) → AreBytes i → AreWords j.t.word (fresh m i)
    fresh_words m i h fed = record {
      regs = λ n x e. stack_small (n == j.t.sp) x e;
      temps = λ n x e. absurd (let k : None ≡ Some x = e in cc);
      bytes = λ a x e. bytes_small m h (is_between low_of from a) a x e;
      fed = fed;
    }

    pub enters : (cs ds : List Waiting) → Chain j (cut v) (cut z) (routine j g).params from cs ds → ((a : ℕ) → Tells (v a) (z a)) → input ≡ input' → AreBytes input → AreBytes input'
        → ((a x : ℕ) → v a ≡ Some x → x < 256) → ((a x : ℕ) → z a ≡ Some x → x < 256) → Begins j g 0 low_of cs ds (fresh v input) (fresh z input')
    enters cs ds chain tells same fed fed' small small' = record {
      stands = stands;
      chain = subst (λ b. Chain j (cut v) (cut z) (routine j g).params b cs ds) high_is chain;
      aligned = low_aligned;
      temps = λ i e. blank _;
      registers = λ n e. tells_stack (n == j.t.sp);
      flags = λ n e. gone Gone;
      bytes = λ a. tells_cut (is_between low_of from a) _ _ (tells a);
      input = same;
      words = fresh_words v input small fed;
      new_words = fresh_words z input' small' fed';
      stack = ap (λ b. cond b (Some low_of) None) (eq-eqb j.t.sp j.t.sp refl);
      blank = λ a e. ap (λ b. cond b None (v a)) (inside a (and_right (has_temporaries (routine j g)) _ e));
    }
      where
        high_is : from ≡ low_of + (routine j g).frame + pushed j.t
        high_is = omega (arith, fits)

        inside : (a : ℕ) → is_between (low_of + (routine j g).first_home) (low_of + (routine j g).first_home + word_bytes j.t * (routine j g).slots) a ≡ true → is_between low_of from a ≡ true
        inside a e =
            let l = inside_low _ _ a e in
            let h = inside_high _ _ a e in
            let p = (framed j g stands).fits in
            inside_of low_of from a (omega (arith, l)) (omega (arith, h, p, fits))
