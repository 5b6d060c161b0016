-- What holds of a call of a function whose naive code stands: where its frame is, and what its code may touch.
use Rattle.std.proofs.Common.{◌≡◌, ℕ, zero, suc, ◌+◌, ◌*◌, ◌-◌, ◌%◌, ◌/◌, ◌≤◌, ◌<◌, ◌⊎◌, inl, inr, List, [], ◌∷◌, Option, Some, None, Ok, refl, sym, ap, ◌∙◌, subst, arith}
use Rattle.std.specs.Prelude.{Bool, true, false, if◌then◌else◌, ◌&&◌, nat_le, nat_lt, max, take, slice_get, slice_index, length}
use Rattle.std.proofs.lemmas.Bool.Decides.{nat_tests}
use Rattle.rtl_word.specs.Words.{IsWordSize}
use Rattle.rtl_word.proofs.Below.{by_size}
use Rattle.rtl_effect.specs.Views.{View, touched}
use Rattle.md_shapes.specs.Shapes.{Frame as Fixed}
use Rattle.c_tree.specs.declared.types.CType.{CType}
use Rattle.c_tree.specs.declared.types.CType.TheVariants as type
use Rattle.c_tree.specs.declared.typed.Variable.{Variable}
use Rattle.c_tree.specs.declared.typed.Variable.TheVariants as variable
use Rattle.c_tree.specs.declared.typed.Object.{Object}
use Rattle.c_tree.specs.declared.typed.Function.{Function}
use Rattle.c_tree.specs.declared.typed.Typed.{Typed}
use Rattle.c_limits.specs.Depths.{greatest_in, arguments_of, depth_of}
use Rattle.c_limits.specs.Frames.{word_bytes, element_bytes, array_in, arrays, scalars, frame_bytes, frame_words}
use Rattle.c_meaning.specs.Run.{kind_in}
use Rattle.temp_machine.specs.Routines.{Image, Target}
use Rattle.temp_machine.specs.Machine.{is_between, is_in_data, is_in_arrays, is_in_some_arrays, may_touch, params_from, params_to, homes_from, homes_to}
use Rattle.temp_machine.specs.Cells.{has_temporaries}
use Rattle.temp_machine.specs.Units.{IsTarget}
use Rattle.naive_code.specs.Storage.{storage_of, arrays_from}
use Rattle.naive_code.specs.Functions.{first_home_of, slots_of}
use Rattle.naive_run.specs.Law.{IsFixedBy, IsUnitOf, Expands}
use Rattle.naive_step.proofs.Making.{Call, Fits, Shows, active, routine_in}
use Rattle.naive_step.proofs.Memory.{may_be_touched}
use Rattle.naive_rep.proofs.Rooms.{array_within}
use Rattle.naive_assigned.proofs.Areas.{Area, OfStatic, OfLocal, object_area, of_static, of_local, no_parameter, bytes_are}

-- the routine of the call is the function's naive code, and its frame stands above the data, within memory, at a word
pub record Ready (t : Target) (u : Image) (m : Fixed) (source : Typed) (f : Function) (k : Call) : Type 0 where
  pub fits : Fits t u k
  pub target : IsTarget t
  pub fixed : IsFixedBy t m
  pub unit : IsUnitOf t m source u
  pub label : ℕ
  pub expands : Expands t m source f label (routine_in t u k)
  pub low : t.base + length u.bytes ≤ k.base
  pub high : k.base + frame_bytes t.kept t.word f ≤ t.memory
  pub aligned : k.base % (t.word / 8) ≡ 0
  pub parameters : (x : ℕ) (o : Object) → slice_get f.params x ≡ Some o → o.length ≡ None

-- ---- words

room_even : (of : CType) (l : Option ℕ) → array_in 16 of l % 2 ≡ 0
room_even of None = refl
room_even of (Some n) = omega arith

room_fourth : (of : CType) (l : Option ℕ) → array_in 32 of l % 4 ≡ 0
room_fourth of None = refl
room_fourth of (Some n) = omega arith

arrays_even : (os : List Object) → arrays 16 os % 2 ≡ 0
arrays_even [] = refl
arrays_even (o ∷ os) = let here = room_even o.element o.length in let rest = arrays_even os in omega (arith, here, rest)

arrays_fourth : (os : List Object) → arrays 32 os % 4 ≡ 0
arrays_fourth [] = refl
arrays_fourth (o ∷ os) = let here = room_fourth o.element o.length in let rest = arrays_fourth os in omega (arith, here, rest)

-- a number of words behind a word, and arrays behind that
pub words_behind : (w a n : ℕ) (os : List Object) → IsWordSize w → a % (w / 8) ≡ 0 → (a + (word_bytes w * n + arrays w os)) % (w / 8) ≡ 0
words_behind w a n os z =
    by_size (λ w. a % (w / 8) ≡ 0 → (a + (word_bytes w * n + arrays w os)) % (w / 8) ≡ 0)
    (λ h. let e = arrays_even os in omega (arith, h, e)) (λ h. let e = arrays_fourth os in omega (arith, h, e)) w z

-- a word behind words
pub word_behind : (w a i : ℕ) → IsWordSize w → a % (w / 8) ≡ 0 → (a + word_bytes w * i) % (w / 8) ≡ 0
word_behind w a i z = by_size (λ w. a % (w / 8) ≡ 0 → (a + word_bytes w * i) % (w / 8) ≡ 0) (λ h. omega (arith, h)) (λ h. omega (arith, h)) w z

-- an element of an array that begins at a word
pub element_aligned : (w a i : ℕ) (of : CType) → IsWordSize w → a % (w / 8) ≡ 0 → (a + element_bytes w of * i) % element_bytes w of ≡ 0
element_aligned w a i type.Schar z h = omega arith
element_aligned w a i type.Uchar z h = omega arith
element_aligned w a i type.Int z h = by_size (λ w. a % (w / 8) ≡ 0 → (a + word_bytes w * i) % word_bytes w ≡ 0) (λ h. omega (arith, h)) (λ h. omega (arith, h)) w z h
element_aligned w a i type.Unsigned z h = by_size (λ w. a % (w / 8) ≡ 0 → (a + word_bytes w * i) % word_bytes w ≡ 0) (λ h. omega (arith, h)) (λ h. omega (arith, h)) w z h
element_aligned w a i type.Void z h = by_size (λ w. a % (w / 8) ≡ 0 → (a + word_bytes w * i) % word_bytes w ≡ 0) (λ h. omega (arith, h)) (λ h. omega (arith, h)) w z h

-- ---- what may be touched

pub or_left : (x y : Bool) → x ≡ true → (if x then true else y) ≡ true
or_left true y e = refl
or_left false y e = absurd (grind (arith, e))

pub or_right : (x y : Bool) → y ≡ true → (if x then true else y) ≡ true
or_right true y e = refl
or_right false y e = e

pub between_true : (low high a : ℕ) → low ≤ a → a < high → is_between low high a ≡ true
between_true low high a h g = grind (arith, nat_tests, h, g)

-- the homes end where the arrays begin
homes_end : (w all homes : ℕ) → IsWordSize w → homes ≤ all → word_bytes w * (all - homes) + w / 8 * homes ≤ word_bytes w * all
homes_end w all homes z le = by_size (λ w. word_bytes w * (all - homes) + w / 8 * homes ≤ word_bytes w * all) (omega (arith, le)) (omega (arith, le)) w z

-- and the outgoing arguments where the link word and the kept registers do
outgoing_end : (w first arguments kept : ℕ) → IsWordSize w → first ≡ arguments + (1 + kept) → word_bytes w * arguments ≤ word_bytes w * first - w / 8 * (1 + kept)
outgoing_end w first arguments kept z e =
    by_size (λ w. word_bytes w * arguments ≤ word_bytes w * first - w / 8 * (1 + kept)) (omega (arith, e)) (omega (arith, e)) w z

few_homes : (arguments kept parameters locals depth : ℕ) → 16 + (parameters + locals) + (depth + 4) ≤ arguments + 1 + kept + 16 + parameters + locals + (depth + 4)
few_homes arguments kept parameters locals depth = omega arith

before_homes : (arguments kept parameters locals depth : ℕ)
    → arguments + 1 + kept + 16 + parameters + locals + (depth + 4) - (16 + (parameters + locals) + (depth + 4)) ≡ arguments + (1 + kept)
before_homes arguments kept parameters locals depth = omega arith

module _ (t : Target) (u : Image) (m : Fixed) (source : Typed) (f : Function) (k : Call) (ready : Ready t u m source f k) where
  abbrev pub size_of : IsWordSize t.word
  size_of = ready.target.size

  -- so many words are for the arguments of calls
  abbrev pub outgoing : ℕ
  outgoing = max 2 (greatest_in arguments_of f.body)

  few : slots_of f ≤ frame_words t.kept f
  few = few_homes outgoing (length t.kept) (length f.params) (scalars f.locals) (greatest_in depth_of f.body)

  arrays_begin : (routine_in t u k).first_home + t.word / 8 * (routine_in t u k).slots ≤ arrays_from t.kept t.word f
  arrays_begin =
      let first = ready.expands.first_home in
      let homes : t.word / 8 * (routine_in t u k).slots ≡ t.word / 8 * slots_of f = ap (λ n. t.word / 8 * n) ready.expands.slots in
      let fits = homes_end t.word (frame_words t.kept f) (slots_of f) size_of few in
      omega (arith, first, homes, fits)

  outgoing_stand : word_bytes t.word * outgoing ≤ (routine_in t u k).first_home - t.word / 8 * (1 + length t.kept)
  outgoing_stand =
      let first = ready.expands.first_home in
      let fits = outgoing_end t.word (frame_words t.kept f - slots_of f) outgoing (length t.kept) size_of
      (before_homes outgoing (length t.kept) (length f.params) (scalars f.locals) (greatest_in depth_of f.body)) in
      omega (arith, first, fits)

  reach_data : (a : ℕ) → t.base ≤ a → a < t.base + length u.bytes → may_touch t u (active t u k) k.callers a ≡ true
  reach_data a h g = or_left _ _ (between_true _ _ a h g)

  reach_arrays : (a : ℕ) → k.base + arrays_from t.kept t.word f ≤ a → a < k.base + frame_bytes t.kept t.word f → may_touch t u (active t u k) k.callers a ≡ true
  reach_arrays a h g =
      let begins = arrays_begin in let ends = ready.expands.frame in
      let low = k.base + (routine_in t u k).first_home + t.word / 8 * (routine_in t u k).slots in
      let high = k.base + (routine_in t u k).frame in
      or_right _ _ (or_left _ _ (between_true low high a (omega (arith, begins, h)) (omega (arith, ends, g))))

  reach_outgoing : (a : ℕ) → k.base ≤ a → a < k.base + word_bytes t.word * outgoing → may_touch t u (active t u k) k.callers a ≡ true
  reach_outgoing a h g =
      let stand = outgoing_stand in
      let high = k.base + (routine_in t u k).first_home - t.word / 8 * (1 + length t.kept) in
      let c = active t u k in
      or_right (is_in_data t u a) _ (or_right (is_in_arrays t u c a) _ (or_right (is_in_some_arrays t u k.callers a) _
      (or_left (is_between k.base high a)
      (if is_between (params_from t u c) (params_to t u c) a then true else (if has_temporaries (routine_in t u k) then false else is_between (homes_from t u c) (homes_to t u c) a))
      (between_true k.base high a h (omega (arith, stand, g))))))

  in_data : (v : View) (a n : ℕ) → Shows t u k v → t.base ≤ a → a + n ≤ t.base + length u.bytes → a % n ≡ 0 → touched n v (Some a) ≡ Ok a
  in_data v a n s from to aligned =
      let size = s.size in let low = ready.low in let high = ready.high in
      may_be_touched n a v (omega (arith, size, low, high, to)) aligned (λ b above below. s.reach b ∙ reach_data b (omega (arith, from, above)) (omega (arith, to, below)))

  in_arrays : (v : View) (a n : ℕ) → Shows t u k v → k.base + arrays_from t.kept t.word f ≤ a → a + n ≤ k.base + frame_bytes t.kept t.word f → a % n ≡ 0 → touched n v (Some a) ≡ Ok a
  in_arrays v a n s from to aligned =
      let size = s.size in let high = ready.high in
      may_be_touched n a v (omega (arith, size, high, to)) aligned (λ b above below. s.reach b ∙ reach_arrays b (omega (arith, from, above)) (omega (arith, to, below)))

  pub frame_is : frame_bytes t.kept t.word f ≡ arrays_from t.kept t.word f + arrays t.word f.locals
  frame_is = refl

  pub outgoing_below : word_bytes t.word * outgoing ≤ arrays_from t.kept t.word f
  outgoing_below = by_size (λ w. word_bytes w * outgoing ≤ arrays_from t.kept w f) (omega arith) (omega arith) t.word size_of

  in_outgoing : (v : View) (a n : ℕ) → Shows t u k v → k.base ≤ a → a + n ≤ k.base + word_bytes t.word * outgoing → a % n ≡ 0 → touched n v (Some a) ≡ Ok a
  in_outgoing v a n s from to aligned =
      let size = s.size in let high = ready.high in let below = outgoing_below in
      may_be_touched n a v (omega (arith, size, high, to, below)) aligned (λ b above less. s.reach b ∙ reach_outgoing b (omega (arith, from, above)) (omega (arith, to, less)))

  pub argument_end : (i : ℕ) → i < outgoing → word_bytes t.word * i + t.word / 8 ≤ word_bytes t.word * outgoing
  argument_end i lt = by_size (λ w. word_bytes w * i + w / 8 ≤ word_bytes w * outgoing) (omega (arith, lt)) (omega (arith, lt)) t.word size_of

  -- an outgoing argument, and the lowest byte of the first one
  pub touches_argument : (v : View) (i : ℕ) → Shows t u k v → i < outgoing → touched (t.word / 8) v (Some (k.base + word_bytes t.word * i)) ≡ Ok (k.base + word_bytes t.word * i)
  touches_argument v i s lt =
      let end = argument_end i lt in
      in_outgoing v (k.base + word_bytes t.word * i) (t.word / 8) s (omega arith) (omega (arith, end)) (word_behind t.word k.base i size_of ready.aligned)

  some_outgoing : 1 ≤ word_bytes t.word * outgoing
  some_outgoing = by_size (λ w. 1 ≤ word_bytes w * outgoing) (omega arith) (omega arith) t.word size_of

  pub touches_lowest : (v : View) → Shows t u k v → touched 1 v (Some k.base) ≡ Ok k.base
  touches_lowest v s = let some = some_outgoing in in_outgoing v k.base 1 s (omega arith) (omega (arith, some)) (omega arith)

  pub frame_not_empty : k.base < k.base + arrays_from t.kept t.word f
  frame_not_empty = let some = some_outgoing in let below = outgoing_below in omega (arith, some, below)

  -- ---- objects in memory

  abbrev pub area_in : Variable → Option Area
  area_in = object_area t u k m source f size_of ready.unit ready.low

  static_in_area : (x : ℕ) (z : Area) → area_in (variable.Static x) ≡ Some z → OfStatic t u k m source f size_of ready.unit ready.low x z
  static_in_area = of_static t u k m source f size_of ready.unit ready.low

  local_in_area : (x : ℕ) (z : Area) → area_in (variable.Local x) ≡ Some z → OfLocal t u k m source f size_of ready.unit ready.low x z
  local_in_area = of_local t u k m source f size_of ready.unit ready.low

  not_parameter : {A : Type 0} (x : ℕ) (z : Area) → area_in (variable.Parameter x) ≡ Some z → A
  not_parameter x z e = no_parameter t u k m source f size_of ready.unit ready.low x z (kind_in source f (variable.Parameter x)) e

  -- what lies within an object may be touched, in its own alignment
  pub touches_object : (x : Variable) (z : Area) → area_in x ≡ Some z → (v : View) (a n : ℕ) → Shows t u k v → z.from ≤ a → a + n ≤ z.from + z.count → a % n ≡ 0 → touched n v (Some a) ≡ Ok a
  touches_object (variable.Static x) z e v a n s from to aligned =
      let p = static_in_area x z e in
      let begins = p.from in let count = p.count in
      let h = ready.unit.statics x p.static p.is in
      let first = h.from in let last = h.to in
      in_data v a n s (omega (arith, begins, first, from)) (omega (arith, begins, count, last, to)) aligned
  touches_object (variable.Local x) z e v a n s from to aligned =
      let p = local_in_area x z e in
      let begins = p.from in let count = p.count in
      let last = array_within t.word f.locals x p.local p.is in
      in_arrays v a n s (omega (arith, begins, from)) (omega (arith, begins, count, last, to)) aligned
  touches_object (variable.Parameter x) z e v a n s from to aligned = not_parameter x z e

  -- an object in memory begins at a word
  pub object_aligned : (x : Variable) (z : Area) → area_in x ≡ Some z → z.from % (t.word / 8) ≡ 0
  object_aligned (variable.Static x) z e =
      let p = static_in_area x z e in ap (λ a. a % (t.word / 8)) p.from ∙ (ready.unit.statics x p.static p.is).aligned
  object_aligned (variable.Local x) z e =
      let p = local_in_area x z e in
      ap (λ a. a % (t.word / 8)) p.from ∙ words_behind t.word k.base (frame_words t.kept f) (take x f.locals) size_of ready.aligned
  object_aligned (variable.Parameter x) z e = not_parameter x z e

  -- it ends below the end of the frame, and does not lie among the outgoing arguments
  pub object_below : (x : Variable) (z : Area) → area_in x ≡ Some z → z.from + z.count ≤ k.base + frame_bytes t.kept t.word f
  object_below (variable.Static x) z e =
      let p = static_in_area x z e in
      let begins = p.from in let count = p.count in
      let last = (ready.unit.statics x p.static p.is).to in
      let low = ready.low in
      omega (arith, begins, count, last, low)
  object_below (variable.Local x) z e =
      let p = local_in_area x z e in
      let begins = p.from in let count = p.count in
      let last = array_within t.word f.locals x p.local p.is in
      omega (arith, begins, count, last)
  object_below (variable.Parameter x) z e = not_parameter x z e

  pub object_outside : (x : Variable) (z : Area) → area_in x ≡ Some z → (z.from + z.count ≤ k.base) ⊎ (k.base + arrays_from t.kept t.word f ≤ z.from)
  object_outside (variable.Static x) z e =
      let p = static_in_area x z e in
      let begins = p.from in let count = p.count in
      let last = (ready.unit.statics x p.static p.is).to in
      let low = ready.low in
      inl (omega (arith, begins, count, last, low))
  object_outside (variable.Local x) z e =
      let p = local_in_area x z e in
      let begins = p.from in
      inr (omega (arith, begins))
  object_outside (variable.Parameter x) z e = not_parameter x z e
