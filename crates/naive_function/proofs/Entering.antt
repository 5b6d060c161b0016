-- A function is entered: where its frame stands, and what the first point of its run shows.
use Rattle.std.proofs.Common.{◌≡◌, ℕ, zero, suc, ◌+◌, ◌-◌, ◌%◌, ◌/◌, ◌^◌, ◌≤◌, ◌<◌, ◌⊎◌, inl, inr, List, [], ◌∷◌, Option, Some, None, refl, ap, ◌∙◌, subst, arith, true, false}
use Rattle.std.specs.Prelude.{Bool, if◌then◌else◌, ◌==◌, ◌||◌, not, nat_le, slice_get, slice_index, length, unwrap_or, All}
use Rattle.std.proofs.lemmas.List.Elements.{All-head, All-tail}
use Rattle.std.proofs.lemmas.Nat.{pow_pos}
use Rattle.behaviour.specs.Run.{AreBytes}
use Rattle.std.specs.List.{list_all}
use Rattle.std.proofs.lemmas.Bool.Decides.{nat_tests}
use Rattle.rtl_word.specs.Words.{IsWordSize}
use Rattle.rtl_word.proofs.Below.{by_size}
use Rattle.md_shapes.specs.Shapes.{Frame as Fixed}
use Rattle.c_tree.specs.declared.typed.Object.{Object}
use Rattle.c_tree.specs.declared.typed.Function.{Function}
use Rattle.c_tree.specs.declared.typed.Typed.{Typed}
use Rattle.c_limits.specs.Frames.{word_bytes, frame_bytes, frame_words, call_bytes, is_helper}
use Rattle.c_meaning.specs.Run.{is_main}
use Rattle.temp_machine.specs.Routines.{Image, Target, pushed, pushed_by}
use Rattle.temp_machine.specs.Machine.{State, Waiting, may_touch, taken_by_callers, unset_between, is_between, entry, entered}
use Rattle.temp_machine.specs.Small.{Point, first_point}
use Rattle.naive_run.specs.Law.{IsFixedBy, IsUnitOf, IsSoundTarget, Expands}
use Rattle.naive_run.specs.Sound.{left_of, is_scalar, is_scalar_by, is_sound, is_sound_function}
use Rattle.naive_step.proofs.Words.{HoldsWords, words_in}
use Rattle.naive_step.proofs.Making.{Call, Inside}
use Rattle.naive_assigned.proofs.Areas.{bytes_are}
use Rattle.naive_assigned.proofs.Ready.{Ready, words_behind}
use Rattle.naive_lists.proofs.Lists.{le_of}
use Rattle.naive_nodes.proofs.Nodes.{both_so}

-- ---- what a sound function is

not_so : (b : Bool) → not b ≡ true → b ≡ false
not_so true e = absurd (grind (arith, e))
not_so false e = refl

either_so : (a b : Bool) → (not a || b) ≡ true → a ≡ true → b ≡ true
either_so true b e h = e
either_so false b e h = absurd (grind (arith, h))

le_so : (a b : ℕ) → a ≤ b → nat_le a b ≡ true
le_so a b h = grind (arith, nat_tests, h)

same_item : {A : Type 0} (x y : A) → Some x ≡ Some y → x ≡ y
same_item x y e = ap (λ o. unwrap_or o x) e

all_at : {A : Type 0} (p : A → Bool) (xs : List A) (i : ℕ) (x : A) → list_all p xs ≡ true → slice_get xs i ≡ Some x → p x ≡ true
all_at p [] i x all is = absurd (grind (arith, is))
all_at p (y ∷ ys) zero x all is = subst (λ z. p z ≡ true) (same_item y x is) (both_so _ _ all).0
all_at p (y ∷ ys) (suc i) x all is = all_at p ys i x (both_so _ _ all).1 is

no_length : (l : Option ℕ) → is_scalar_by l ≡ true → l ≡ None
no_length None e = refl
no_length (Some n) e = absurd (grind (arith, e))

pub record IsSoundFunction (kept : List ℕ) (w : ℕ) (source : Typed) (f : Function) : Type 0 where
  pub body : (left_of w source f f.body).sound ≡ true
  pub breaks : (left_of w source f f.body).breaks ≡ false
  pub continues : (left_of w source f f.body).continues ≡ false
  pub scalars : (x : ℕ) (o : Object) → slice_get f.params x ≡ Some o → o.length ≡ None
  pub main : is_main f ≡ true → length f.params ≡ 0
  pub helper : is_helper f.name ≡ true → frame_bytes kept w f + word_bytes w ≤ 256

sound_parts : (kept : List ℕ) (w : ℕ) (source : Typed) (f : Function) → is_sound_function kept w source f ≡ true → IsSoundFunction kept w source f
sound_parts kept w source f e =
    let body = left_of w source f f.body in
    let p = both_so _ (not (is_helper f.name) || nat_le (frame_bytes kept w f + word_bytes w) 256) e in
    let q = both_so _ (not (is_main f) || nat_le (length f.params) 0) p.0 in
    let r = both_so _ (list_all is_scalar f.params) q.0 in
    let s = both_so _ (not body.continues) r.0 in
    let z = both_so body.sound (not body.breaks) s.0 in
    record {
      body = z.0;
      breaks = not_so body.breaks z.1;
      continues = not_so body.continues s.1;
      scalars = λ x o is. no_length o.length (all_at is_scalar f.params x o r.1 is);
      main = λ h. (let few = le_of (length f.params) 0 (either_so (is_main f) _ q.1 h) in omega (arith, few));
      helper = λ h. le_of (frame_bytes kept w f + word_bytes w) 256 (either_so (is_helper f.name) _ p.1 h);
    }

pub sound_function : (kept : List ℕ) (w : ℕ) (source : Typed) (g : ℕ) (f : Function) → is_sound kept w source ≡ true → slice_get source.functions g ≡ Some f → IsSoundFunction kept w source f
sound_function kept w source g f sound is = sound_parts kept w source f (all_at (is_sound_function kept w source) source.functions g f sound is)

-- ---- words

frame_aligned : (kept : List ℕ) (w : ℕ) (f : Function) → IsWordSize w → frame_bytes kept w f % (w / 8) ≡ 0
frame_aligned kept w f z =
    ap (λ n. n % (w / 8)) (let e : frame_bytes kept w f ≡ 0 + frame_bytes kept w f = omega arith in e)
    ∙ words_behind w 0 (frame_words kept f) f.locals z (by_size (λ w. 0 % (w / 8) ≡ 0) refl refl w z)

pushed_aligned : (l : Option ℕ) (w : ℕ) → IsWordSize w → pushed_by l (w / 8) % (w / 8) ≡ 0
pushed_aligned (Some z) w s = by_size (λ w. 0 % (w / 8) ≡ 0) refl refl w s
pushed_aligned None w s = by_size (λ w. (w / 8) % (w / 8) ≡ 0) refl refl w s

pushed_few : (l : Option ℕ) (b : ℕ) → pushed_by l b ≤ b
pushed_few (Some z) b = omega arith
pushed_few None b = omega arith

below_aligned : (w from frame more : ℕ) → IsWordSize w → from % (w / 8) ≡ 0 → frame % (w / 8) ≡ 0 → more % (w / 8) ≡ 0 → frame + more ≤ from → (from - (frame + more)) % (w / 8) ≡ 0
below_aligned w from frame more z a b c le =
    by_size (λ w. from % (w / 8) ≡ 0 → frame % (w / 8) ≡ 0 → more % (w / 8) ≡ 0 → (from - (frame + more)) % (w / 8) ≡ 0)
    (λ a b c. omega (arith, a, b, c, le)) (λ a b c. omega (arith, a, b, c, le)) w z a b c

not_between : (low high a : ℕ) → (a < low) ⊎ (high ≤ a) → is_between low high a ≡ false
not_between low high a (inl lt) = grind (arith, nat_tests, lt)
not_between low high a (inr le) = grind (arith, nat_tests, le)

outside_bytes : (low high a : ℕ) (bytes : ℕ → Option ℕ) → (a < low) ⊎ (high ≤ a) → unset_between low high bytes a ≡ bytes a
outside_bytes low high a bytes out = ap (λ b. if b then None else bytes a) (not_between low high a out)

pub index_small : (most : ℕ) (xs : List ℕ) (i : ℕ) → 0 < most → All (λ a. a < most) xs → slice_index xs i < most
index_small most [] i some all = some
index_small most (x ∷ xs) zero some all = All-head (λ a. a < most) x xs all
index_small most (x ∷ xs) (suc i) some all = index_small most xs i some (All-tail (λ a. a < most) x xs all)

-- ---- the first point of a block

module _ (t : Target) (u : Image) (k : Call) where
  -- of a state whose active call this is
  pub first_inside : (s : State) → IsWordSize t.word → All (λ a. a < 2 ^ t.word) u.symbols → s.top.function ≡ k.function → s.top.base ≡ k.base → s.callers ≡ k.callers → HoldsWords t u s → Inside t u k (first_point t u s)
  first_inside s size symbols function base callers has = record {
    function = function;
    base = base;
    callers = callers;
    shows = record {
      size = refl;
      reach = λ a. ap (λ f. may_touch t u (record { function = f; block = 0; base = s.top.base; temps = λ n. None }) s.callers a) function
          ∙ (ap (λ b. may_touch t u (record { function = k.function; block = 0; base = b; temps = λ n. None }) s.callers a) base
          ∙ ap (λ cs. may_touch t u (record { function = k.function; block = 0; base = k.base; temps = λ n. None }) cs a) callers);
      symbols = λ n. refl;
      targets = λ l. refl;
      counter = refl;
      input = refl;
      words = words_in t u s size (λ n. index_small (2 ^ t.word) u.symbols n (pow_pos t.word) symbols) has;
      fed = has.fed;
    };
  }

module _ (t : Target) (u : Image) (m : Fixed) (source : Typed) (fixed : IsFixedBy t m) (machine : IsSoundTarget t u) (sound : is_sound t.kept t.word source ≡ true) (unit : IsUnitOf t m source u) where
  -- a function is called below an address, where the calls around it take so many bytes, and the stack suffices
  pub record Enters (g : ℕ) (f : Function) (callers : List Waiting) (from used : ℕ) : Type 0 where
    pub function : slice_get source.functions g ≡ Some f
    pub room : t.memory ≤ from + taken_by_callers t u callers
    pub high : from ≤ t.memory
    pub aligned : from % (t.word / 8) ≡ 0
    pub used_is : used ≡ taken_by_callers t u callers
    pub few : 256 + (used + call_bytes t.kept t.word f) ≤ t.stack

  module _ (g : ℕ) (f : Function) (callers : List Waiting) (from used : ℕ) (e : Enters g f callers from used) where
    abbrev pub entered_call : Call
    entered_call = record { function = g; base = entry t u g from; callers = callers }

    pub is_sound_here : IsSoundFunction t.kept t.word source f
    is_sound_here = sound_function t.kept t.word source g f sound e.function

    abbrev size : IsWordSize t.word
    size = machine.target.size

    pub expanded : Expands t m source f (unit.functions g f e.function).0 (u.routines g)
    expanded = (unit.functions g f e.function).1

    -- a helper takes no more than the 256 bytes that stand for its call
    stack_suffices : frame_bytes t.kept t.word f + t.word / 8 + taken_by_callers t u callers ≤ t.stack
    stack_suffices = by_helper (is_helper f.name) refl e.few
      where
        by_helper : (b : Bool) → is_helper f.name ≡ b → 256 + (used + (if b then 0 else frame_bytes t.kept t.word f + word_bytes t.word)) ≤ t.stack
            → frame_bytes t.kept t.word f + t.word / 8 + taken_by_callers t u callers ≤ t.stack
        by_helper true is few = let most = is_sound_here.helper is in let bytes = bytes_are t.word size in let same = e.used_is in omega (arith, few, most, bytes, same)
        by_helper false is few = let bytes = bytes_are t.word size in let same = e.used_is in omega (arith, few, bytes, same)

    few_pushed : pushed t ≤ t.word / 8
    few_pushed = pushed_few t.link (t.word / 8)

    pub deep : (u.routines g).frame + pushed t + (t.base + length u.bytes) ≤ from
    deep =
        let stack = stack_suffices in let more = few_pushed in let frame = expanded.frame in let room = machine.room in let memory = e.room in
        omega (arith, stack, more, frame, room, memory)

    -- its frame ends where what was pushed begins
    pub frame_end : entered_call.base + frame_bytes t.kept t.word f + pushed t ≡ from
    frame_end = let down = deep in let frame = expanded.frame in omega (arith, down, frame)

    pub entered_ready : Ready t u m source f entered_call
    entered_ready = record {
      fits = record { size = size; fits = le_so ((u.routines g).frame + t.word / 8 + taken_by_callers t u callers) t.stack (let stack = stack_suffices in let frame = expanded.frame in omega (arith, stack, frame)) };
      target = machine.target;
      fixed = fixed;
      unit = unit;
      label = (unit.functions g f e.function).0;
      expands = expanded;
      low = (let down = deep in omega (arith, down));
      high = (let end = frame_end in let high = e.high in omega (arith, end, high));
      aligned = below_aligned t.word from (u.routines g).frame (pushed t) size e.aligned (ap (λ n. n % (t.word / 8)) expanded.frame ∙ frame_aligned t.kept t.word f size) (pushed_aligned t.link t.word size)
          (let down = deep in omega (arith, down));
      parameters = is_sound_here.scalars;
    }

    -- the calls around a call that it makes take so many bytes
    pub room_left : t.memory ≤ entered_call.base + ((u.routines g).frame + t.word / 8 + taken_by_callers t u callers)
    room_left = let down = deep in let more = few_pushed in let memory = e.room in omega (arith, down, more, memory)

    pub used_then : is_helper f.name ≡ false → used + call_bytes t.kept t.word f ≡ (u.routines g).frame + t.word / 8 + taken_by_callers t u callers
    used_then none =
        let here : call_bytes t.kept t.word f ≡ frame_bytes t.kept t.word f + word_bytes t.word = ap (λ b. if b then 0 else frame_bytes t.kept t.word f + word_bytes t.word) none in
        let bytes = bytes_are t.word size in let frame = expanded.frame in let same = e.used_is in
        omega (arith, here, bytes, frame, same)

    -- ---- the first point

    module _ (bytes : ℕ → Option ℕ) (input out : List ℕ) where
      abbrev pub first : Point
      first = first_point t u (entered t u g callers from bytes input out)

      register_small : (b : Bool) (n : ℕ) → (if b then Some entered_call.base else None) ≡ Some n → n < 2 ^ t.word
      register_small true n is =
          let same : entered_call.base ≡ n = ap (λ o. unwrap_or o n) is in
          let end = frame_end in let high = e.high in let memory = machine.target.memory in
          omega (arith, same, end, high, memory)
      register_small false n is = absurd (grind (arith, is))

      byte_small : (b : Bool) (a n : ℕ) → ((a n : ℕ) → bytes a ≡ Some n → n < 256) → (if b then None else bytes a) ≡ Some n → n < 256
      byte_small true a n small is = absurd (grind (arith, is))
      byte_small false a n small is = small a n is

      pub entered_inside : ((a n : ℕ) → bytes a ≡ Some n → n < 256) → AreBytes input → Inside t u entered_call first
      entered_inside small fed = first_inside t u entered_call (entered t u g callers from bytes input out) size machine.symbols refl refl refl (record {
        registers = λ j n is. register_small (j == t.sp) n is;
        temps = λ j n is. absurd (grind (arith, is));
        bytes = λ a n is. byte_small (is_between entered_call.base from a) a n small is;
        fed = fed;
      })

      pub bytes_below : (b : ℕ) → b < t.base + length u.bytes → first.view.bytes b ≡ bytes b
      bytes_below b lt = outside_bytes entered_call.base from b bytes (inl (let down = deep in omega (arith, down, lt)))

      pub bytes_above : (b : ℕ) → from ≤ b → first.view.bytes b ≡ bytes b
      bytes_above b le = outside_bytes entered_call.base from b bytes (inr le)
