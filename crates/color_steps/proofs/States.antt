-- States of the old code and of the coloured code that belong together at the begin of a block.
use Rattle.std.proofs.Common.{◌≡◌, ℕ, zero, suc, ◌+◌, ◌%◌, ◌^◌, ◌<◌, ◌≤◌, Bool, true, false, List, [], ◌∷◌, Option, Some, None, refl, sym, ap, subst, arith}
use Rattle.std.specs.Prelude.{slice_index}
use Rattle.std.specs.List.{AllByRecursion}
use Rattle.std.proofs.lemmas.List.Elements.{recursion_from_All}
use Rattle.rtl_word.proofs.Below.{by_size}
use Rattle.rtl_tree.specs.declared.cells.Cell.{Cell}
use Rattle.rtl_tree.specs.declared.cells.Cell.TheVariants.{Hard, Temp, Flag, Pc, Input, Output, Halt, Hole}
use Rattle.behaviour.specs.Behaviour.{Wild as WildRun}
use Rattle.behaviour.specs.Run.{AreBytes}
use Rattle.behaviour.specs.Steps.{Fails}
use Rattle.rtl_effect.specs.Views.{View, Mark, word_at}
use Rattle.rtl_effect.specs.Effects.{next_in}
use Rattle.rtl_effect.specs.Agree.{Tells, blank, Marks}
use Rattle.rtl_norm_value.specs.Kept.{IsWordView}
use Rattle.rtl_norm_value.proofs.WordViews.{next_below}
use Rattle.temp_machine.specs.Routines.{Image, Target, word_bytes, pushed}
use Rattle.temp_machine.specs.Machine.{Waiting, State, view_in, step, taken_by, taken_by_callers}
use Rattle.temp_machine.specs.Units.{IsTarget}
use Rattle.color_spilling.specs.Passing.{IsPlaced, home_address}
use Rattle.color_spilling.proofs.Memory.{false_true}
use Rattle.color_holding.specs.Holding.{is_free, IsPlainView, where_is, Holds, IsStill}
use Rattle.color_steps.proofs.Frames.{Job, call, routine, Stands, live_in, own, framed, Chain, chain_low, chain_kept, top_private, waiting_private, not_own, reach_up, homes_up}

-- what a state holds beside its place and its callers
pub record Content : Type 0 where
  pub regs : ℕ → Option ℕ
  pub temps : ℕ → Option ℕ
  pub flags : ℕ → Mark
  pub bytes : ℕ → Option ℕ
  pub input : List ℕ

abbrev pub state : ℕ → ℕ → ℕ → List Waiting → Content → List ℕ → State
state f k base cs c out = record { top = call f k base c.temps; callers = cs; regs = c.regs; flags = c.flags; bytes = c.bytes; input = c.input; printed = out }

abbrev pub content_of : View → Content
content_of v = record { regs = λ n. v.cells (Hard n); temps = λ n. v.cells (Temp n); flags = v.flags; bytes = v.bytes; input = v.input }

pub record AreWords (w : ℕ) (c : Content) : Type 0 where
  pub regs : (n x : ℕ) → c.regs n ≡ Some x → x < 2 ^ w
  pub temps : (n x : ℕ) → c.temps n ≡ Some x → x < 2 ^ w
  pub bytes : (a x : ℕ) → c.bytes a ≡ Some x → x < 256
  pub fed : AreBytes c.input

pub words_of : (w : ℕ) (v : View) → IsWordView w v → AreBytes v.input → AreWords w (content_of v)
words_of w v h fed = record { regs = λ n x e. h.cells (Hard n) x e; temps = λ n x e. h.cells (Temp n) x e; bytes = h.bytes; fed = fed }

pub index_below : (m : ℕ) (xs : List ℕ) (n : ℕ) → 0 < m → AllByRecursion (λ x. x < m) xs → slice_index xs n < m
index_below m [] n h a = h
index_below m (x ∷ xs) zero h a = a.0
index_below m (x ∷ xs) (suc n) h a = index_below m xs n h a.1

some_word : (t : Target) → IsTarget t → 0 < 2 ^ t.word
some_word t is = by_size (λ n. 0 < 2 ^ n) (omega arith) (omega arith) t.word is.size

plain_view : (t : Target) (p : Image) (s : State) → IsPlainView t.word (view_in t p s)
plain_view t p s (Hard n) e = false_true e
plain_view t p s (Temp n) e = false_true e
plain_view t p s Pc e = refl
plain_view t p s Input e = refl
plain_view t p s (Flag n) e = refl
plain_view t p s Output e = refl
plain_view t p s Halt e = refl
plain_view t p s (Hole n) e = refl

module _ (t : Target) (p : Image) (is : IsTarget t) (symbols : AllByRecursion (λ a. a < 2 ^ t.word) p.symbols) (f k base : ℕ) (cs : List Waiting) (c : Content) (out : List ℕ) (h : AreWords t.word c) where
  same_word : (x y : ℕ) → Some x ≡ Some y → x < 2 ^ t.word → y < 2 ^ t.word
  same_word x y e l = let k : x ≡ y = cc in subst (λ (z : ℕ). z < 2 ^ t.word) k l

  word_cells : (d : Cell) (n : ℕ) → (view_in t p (state f k base cs c out)).cells d ≡ Some n → n < 2 ^ t.word
  word_cells (Hard i) n e = h.regs i n e
  word_cells (Temp i) n e = h.temps i n e
  word_cells Pc n e = absurd (let k : None ≡ Some n = e in cc)
  word_cells Input n e = same_word (next_in t.word c.input) n e (next_below t.word c.input is.size h.fed)
  word_cells (Flag i) n e = same_word 0 n e (some_word t is)
  word_cells Output n e = same_word 0 n e (some_word t is)
  word_cells Halt n e = same_word 0 n e (some_word t is)
  word_cells (Hole i) n e = same_word 0 n e (some_word t is)

  words_view : IsWordView t.word (view_in t p (state f k base cs c out))
  words_view = record {
    cells = word_cells;
    bytes = h.bytes;
    symbols = λ n. index_below (2 ^ t.word) p.symbols n (some_word t is) symbols;
    labels = λ l n e. absurd (let k : None ≡ Some n = e in cc);
  }

module _ (j : Job) where
  -- where a temporary of the coloured code is at the begin of a block
  abbrev pub held : ℕ → ℕ → Option ℕ → ℕ → Content → Option ℕ
  held f base (Some n) i d = d.regs n
  held f base None i d = word_at d.bytes (home_address j.t (routine j f) base i) (word_bytes j.t)

  held_view : (f k base : ℕ) (ds : List Waiting) (d : Content) (out : List ℕ) (o : Option ℕ) (i : ℕ)
      → held f base o i d ≡ where_is j.t (routine j f) (j.seats f) base o i (view_in j.t j.new (state f k base ds d out))
  held_view f k base ds d out (Some n) i = refl
  held_view f k base ds d out None i = refl

  held_of : (f base : ℕ) (o : Option ℕ) (i : ℕ) (y : View) → where_is j.t (routine j f) (j.seats f) base o i y ≡ held f base o i (content_of y)
  held_of f base (Some n) i y = refl
  held_of f base None i y = refl

  -- the frames stand one below the other, and what is live is held alike
  pub record Begins (f k base : ℕ) (cs ds : List Waiting) (c d : Content) : Type 0 where
    pub stands : Stands j f
    pub chain : Chain j c.bytes d.bytes (routine j f).params (base + (routine j f).frame + pushed j.t) cs ds
    pub aligned : base % word_bytes j.t ≡ 0
    pub temps : (i : ℕ) → live_in j f k (Temp i) ≡ true → Tells (c.temps i) (held f base (j.seats f i) i d)
    pub registers : (n : ℕ) → is_free j.t (routine j f) n ≡ false → Tells (c.regs n) (d.regs n)
    pub flags : (n : ℕ) → live_in j f k (Flag n) ≡ true → Marks (c.flags n) (d.flags n)
    pub bytes : (a : ℕ) → Tells (c.bytes a) (d.bytes a)
    pub input : c.input ≡ d.input
    pub words : AreWords j.t.word c
    pub new_words : AreWords j.t.word d
    pub stack : d.regs j.t.sp ≡ Some base
    pub blank : (a : ℕ) → own j f base a ≡ true → c.bytes a ≡ None

  -- states that hold alike, or whose old one fails at once
  pub data Related : State → State → Type 0 where
    related : (f k base : ℕ) (cs ds : List Waiting) (c d : Content) (out : List ℕ) → Begins f k base cs ds c d → Related (state f k base cs c out) (state f k base ds d out)
    fails : (s r : State) → step j.t j.old s ≡ Fails s.printed WildRun → s.printed ≡ r.printed → Related s r

  symbols_are : AllByRecursion (λ a. a < 2 ^ j.t.word) j.old.symbols
  symbols_are = recursion_from_All (λ a. a < 2 ^ j.t.word) j.old.symbols j.is.image.symbols

  new_symbols : AllByRecursion (λ a. a < 2 ^ j.t.word) j.new.symbols
  new_symbols = subst (λ xs. AllByRecursion (λ a. a < 2 ^ j.t.word) xs) (sym j.is.colored.symbols) symbols_are

  pub weaker : (f base : ℕ) (live later : Cell → Bool) (x y : View) → ((d : Cell) → live d ≡ true → later d ≡ true)
      → Holds j.t (routine j f) (j.seats f) base later x y → Holds j.t (routine j f) (j.seats f) base live x y
  weaker f base live later x y on h = record {
    temps = λ i e. h.temps i (on (Temp i) e);
    registers = h.registers;
    flags = λ n e. h.flags n (on (Flag n) e);
    old_plain = h.old_plain;
    new_plain = h.new_plain;
    land = h.land;
    targets = h.targets;
    places = h.places;
    input = h.input;
    words = h.words;
    ready = h.ready;
    private = h.private;
    blank = h.blank;
  }

  module _ (f k base : ℕ) (cs ds : List Waiting) (c d : Content) (out : List ℕ) (b : Begins f k base cs ds c d)
      (room : taken_by j.t j.old (call f k base c.temps) + taken_by_callers j.t j.old cs ≤ j.t.stack) where
    abbrev pub old_view : View
    old_view = view_in j.t j.old (state f k base cs c out)

    abbrev pub new_view : View
    new_view = view_in j.t j.new (state f k base ds d out)

    pub placed : IsPlaced j.t (routine j f) base
    placed = record {
      target = j.is.target;
      framed = framed j f b.stands;
      aligned = b.aligned;
      inside = (let l = chain_low j c.bytes d.bytes _ _ cs ds b.chain in omega (arith, l));
    }

    pub begin_holds : Holds j.t (routine j f) (j.seats f) base (live_in j f k) old_view new_view
    begin_holds = record {
      temps = λ i e. subst (Tells (c.temps i)) (held_view f k base ds d out (j.seats f i) i) (b.temps i e);
      registers = b.registers;
      flags = b.flags;
      old_plain = plain_view j.t j.old (state f k base cs c out);
      new_plain = plain_view j.t j.new (state f k base ds d out);
      land = record {
        bytes = b.bytes;
        size = refl;
        reach = λ a e. reach_up j c.bytes d.bytes f k base d.temps _ _ cs ds b.chain a k c.temps e;
        symbols = λ n. ap (λ xs. slice_index xs n) (sym j.is.colored.symbols);
        labels = λ l. blank None;
      };
      targets = λ l. refl;
      places = λ n. refl;
      input = b.input;
      words = words_view j.t j.old j.is.target symbols_are f k base cs c out b.words;
      ready = record {
        stack = b.stack;
        size = refl;
        reach = λ a e. homes_up j c.bytes d.bytes f k base d.temps _ _ cs ds b.chain a e;
        words = words_view j.t j.new j.is.target new_symbols f k base ds d out b.new_words;
        bytes = b.new_words.fed;
        next = refl;
      };
      private = λ a e. top_private j c.bytes d.bytes f k base c.temps cs ds b.stands b.chain room a e;
      blank = b.blank;
    }

    abbrev pub Still : View → View → Type 0
    Still x y = IsStill j.t (routine j f) (j.seats f) base old_view new_view x y

    -- what a body leaves of the callers
    pub callers_kept : (x y : View) → Still x y → Chain j x.bytes y.bytes (routine j f).params (base + (routine j f).frame + pushed j.t) cs ds
    callers_kept x y s =
        chain_kept j c.bytes d.bytes x.bytes y.bytes _ _ cs ds b.chain
        (λ a i. let p = waiting_private j c.bytes d.bytes f k base c.temps cs ds b.stands b.chain room a i in
        (s.old a p, s.new a p (not_own j c.bytes d.bytes f k base c.temps cs ds b.stands b.chain room a i)))

    -- the same call goes on at a block
    pub goes_on : (next : ℕ) (x y : View) → Holds j.t (routine j f) (j.seats f) base (live_in j f next) x y → Still x y → Begins f next base cs ds (content_of x) (content_of y)
    goes_on next x y h s = record {
      stands = b.stands;
      chain = callers_kept x y s;
      aligned = b.aligned;
      temps = λ i e. subst (Tells (x.cells (Temp i))) (held_of f base (j.seats f i) i y) (h.temps i e);
      registers = h.registers;
      flags = h.flags;
      bytes = h.land.bytes;
      input = h.input;
      words = words_of j.t.word x h.words (subst AreBytes (sym h.input) h.ready.bytes);
      new_words = words_of j.t.word y h.ready.words h.ready.bytes;
      stack = h.ready.stack;
      blank = h.blank;
    }
