-- The code of a whole source.
use Rattle.std.proofs.Common.{◌≡◌, ℕ, zero, suc, ◌+◌, ◌-◌, ◌/◌, ◌%◌, ◌^◌, ◌<◌, ◌≤◌, Bool, true, false, ◌==◌, if◌then◌else◌, List, [], ◌∷◌, ◌++◌, map, length, Some, refl, sym, ap, subst, ◌∙◌, arith}
use Rattle.std.specs.Prelude.{slice_get, All}
use Rattle.std.proofs.lemmas.List.Elements.{All-nil, All-cons}
use Rattle.md_rows.specs.declared.description.RawDescription.{RawDescription}
use Rattle.md_shapes.specs.Shapes.{Frame as Fixed}
use Rattle.md_covers.specs.Covers.{frame_in}
use Rattle.md_check.specs.Accepted.{normalised}
use Rattle.md_check.specs.Checking.{IsChecked}
use Rattle.md_layout.specs.Layout.{IsLaidOut, SaidIsLaidOut}
use Rattle.c_tree.specs.declared.typed.Function.{Function}
use Rattle.c_tree.specs.declared.typed.Static.{Static}
use Rattle.c_tree.specs.declared.typed.Typed.{Typed}
use Rattle.c_meaning.specs.Run.{is_main, main_in}
use Rattle.temp_machine.specs.Routines.{Routine, pushed_by}
use Rattle.temp_code.specs.declared.code.Code.{Code}
use Rattle.temp_code.specs.declared.code.Unit.{Unit as Program}
use Rattle.temp_code.specs.Realised.{AreRealised}
use Rattle.temp_code.specs.Routines.{routine_of, routine_in, number_in, main_name, image_of}
use Rattle.temp_laws.specs.Targets.{TargetsAreSound}
use Rattle.naive_code.specs.Functions.{function_labels, numbers_from}
use Rattle.naive_run.specs.Law.{Expands, IsUnitOf, IsSoundTarget, NaiveIsSame}
use Rattle.naive_data.specs.Layout.{size_of}
use Rattle.naive_data.specs.Placed.{IsPlaced, HaveRoom}
use Rattle.naive_builder.specs.Appending.{opened}
use Rattle.naive_builder.specs.Finished.{AreOnce}
use Rattle.naive_fits.specs.Labels.{labels_from, AllLabelsAreOnce}
use Rattle.naive_units.specs.Units.{AreNaiveFrom, UnitsAreGood}
use Rattle.naive_units.proofs.Numbered.{routine_here, routine_behind}
use Rattle.naive_expand.specs.Codes.{machine_of, operations, AreElementary, IsCodeOf, AreCodesFrom}
use Rattle.naive_expand.specs.Units.{MayBeExpanded, labels_of, IsNaiveCode}
use Rattle.naive_expand.proofs.Codes.{some_function, is_fixed_by, is_target}

-- main has the same number among the names as among the functions
main_is : (fs : List Function) → number_in (map (λ f. f.name) fs) main_name ≡ main_in fs
main_is [] = refl
main_is (f ∷ fs) = ap (λ (n : ℕ). if is_main f then zero else suc n) (main_is fs)

numbers_are : (d : RawDescription) (m : Fixed) (t : Typed) (n l : ℕ) (fs : List Function) (cs : List Code) → AreCodesFrom d m t n l fs cs
    → map (λ c. c.function) cs ≡ numbers_from n (length fs)
numbers_are d m t n l [] [] a = refl
numbers_are d m t n l (f ∷ fs) (c ∷ cs) a =
    ap (λ (k : ℕ). k ∷ map (λ c. c.function) cs) a.0.function
    ∙ ap (λ (ks : List ℕ). n ∷ ks) (numbers_are d m t (suc n) (l + function_labels [] d.word t f) fs cs a.1)
numbers_are d m t n l [] (c ∷ cs) a = absurd a
numbers_are d m t n l (f ∷ fs) [] a = absurd a

-- their labels are those of the operations, function by function
labels_are : (d : RawDescription) (m : Fixed) (t : Typed) (n l : ℕ) (fs : List Function) (cs : List Code) → AreCodesFrom d m t n l fs cs
    → labels_of cs ≡ labels_from [] d.word (pushed_by m.link (d.word / 8)) t fs l
labels_are d m t n l [] [] a = refl
labels_are d m t n l (f ∷ fs) (c ∷ cs) a =
    ap (λ (ks : List ℕ). ks ++ labels_of cs) a.0.labels
    ∙ ap (λ (ks : List ℕ). (l ∷ opened (operations d m t f l)) ++ ks) (labels_are d m t (suc n) (l + function_labels [] d.word t f) fs cs a.1)
labels_are d m t n l [] (c ∷ cs) a = absurd a
labels_are d m t n l (f ∷ fs) [] a = absurd a

-- what holds of each code
each_code : (P : Code → Type 0) (d : RawDescription) (m : Fixed) (t : Typed) (n l : ℕ) (fs : List Function) (cs : List Code)
    → ((k label : ℕ) (f : Function) (c : Code) → IsCodeOf d m t k f label c → P c) → AreCodesFrom d m t n l fs cs → All P cs
each_code P d m t n l [] [] h a = All-nil P
each_code P d m t n l (f ∷ fs) (c ∷ cs) h a =
    All-cons P c cs (h n l f c a.0) (each_code P d m t (suc n) (l + function_labels [] d.word t f) fs cs h a.1)
each_code P d m t n l [] (c ∷ cs) h a = absurd a
each_code P d m t n l (f ∷ fs) [] h a = absurd a

-- the routine of a number
abbrev Stood : RawDescription → Fixed → Typed → Function → Routine → Type 0
Stood d m t f r = (label : ℕ) × Expands (machine_of d m) m t f label r

function_at : (d : RawDescription) (m : Fixed) (t : Typed) (n l : ℕ) (fs : List Function) (cs : List Code) (j k : ℕ) (f : Function) → k ≡ n + j
    → AreCodesFrom d m t n l fs cs → slice_get fs j ≡ Some f → Stood d m t f (routine_in cs k)
function_at d m t n l [] [] j k f q a e = absurd (cc)
function_at d m t n l (g ∷ fs) (c ∷ cs) zero k f q a e =
    let here = subst (λ (h : Function). Stood d m t h (routine_of c)) (some_function g f e) (l, a.0.expands) in
    subst (Stood d m t f) (sym (routine_here c cs n k a.0.function q)) here
function_at d m t n l (g ∷ fs) (c ∷ cs) (suc j) k f q a e =
    subst (Stood d m t f) (sym (routine_behind c cs n k j a.0.function q))
    (function_at d m t (suc n) (l + function_labels [] d.word t g) fs cs j k f (omega (arith, q)) a.1 e)
function_at d m t n l [] (c ∷ cs) j k f q a e = absurd a
function_at d m t n l (g ∷ fs) [] j k f q a e = absurd a

-- each code is naive
are_naive : (d : RawDescription) (m : Fixed) (t : Typed) (n l : ℕ) (fs : List Function) (cs : List Code) → AreCodesFrom d m t n l fs cs → AreNaiveFrom [] d m t n l fs cs
are_naive d m t n l [] [] a = tt
are_naive d m t n l (f ∷ fs) (c ∷ cs) a = (
  a.0.function,
  record {
    built = a.0.built;
    params = a.0.expands.params;
    frame = a.0.expands.frame;
    first_home = a.0.expands.first_home;
    slots = a.0.expands.slots;
    homes = a.0.expands.homes;
  },
  are_naive d m t (suc n) (l + function_labels [] d.word t f) fs cs a.1,
)
are_naive d m t n l [] (c ∷ cs) a = absurd a
are_naive d m t n l (f ∷ fs) [] a = absurd a

-- what the description gives
pub laid_out : (w : ℕ) (d : RawDescription) → SaidIsLaidOut → IsChecked w d → IsLaidOut d
laid_out w d said c =
    let k = said c.text c.said c.accepted.says in
    let here : IsLaidOut (normalised c.said) = record { aligned = k.aligned; room = k.room } in
    subst IsLaidOut (sym c.normal) here

-- objects that have room between data and stack end below the stack
below : (memory stack base size most : ℕ) → size ≤ memory - stack - base → base + stack < memory → memory < most → (base + size + stack ≤ memory) × (base + size < most)
below memory stack base size most h k l = (omega (arith, h, k), omega (arith, h, k, l))

pub record HasRoom (d : RawDescription) (t : Typed) : Type 0 where
  pub under : d.base + size_of d.word t.statics + d.stack ≤ d.memory
  pub word : d.base + size_of d.word t.statics < 2 ^ d.word
  pub aligned : d.base % (d.word / 8) ≡ 0

pub has_room : (w : ℕ) (d : RawDescription) (m : Fixed) (t : Typed) → TargetsAreSound → SaidIsLaidOut → HaveRoom → IsChecked w d → frame_in d ≡ Some m
    → MayBeExpanded d t → HasRoom d t
has_room w d m t sound said have c e h =
    let lay = laid_out w d said c in
    let target = is_target w d m sound c e in
    let k = below d.memory d.stack d.base (size_of d.word t.statics) (2 ^ d.word) (have [] d.word (d.memory - d.stack - d.base) (record { statics = t.statics; functions = [] }) h.room) lay.room target.memory in
    record { under = k.0; word = k.1; aligned = lay.aligned }

-- where numbers and words are known by other names
pub aligned_at : (a b v w : ℕ) → b ≡ a → v ≡ w → a % (v / 8) ≡ 0 → b % (w / 8) ≡ 0
aligned_at a b v w e f h = subst (λ (x : ℕ). b % (x / 8) ≡ 0) f (subst (λ (y : ℕ). y % (v / 8) ≡ 0) (sym e) h)

pub room_at : (ss rs : List Static) (a b v w : ℕ) → b ≡ a → v ≡ w → rs ≡ ss → a + size_of v ss < 2 ^ v → b + size_of w rs < 2 ^ w
room_at ss rs a b v w e f q h =
    subst (λ (xs : List Static). b + size_of w xs < 2 ^ w) (sym q)
    (subst (λ (x : ℕ). b + size_of x ss < 2 ^ x) f (subst (λ (y : ℕ). y + size_of v ss < 2 ^ v) (sym e) h))

-- the laws that are cited
pub record AreLaws : Type 0 where
  pub targets : TargetsAreSound
  pub labels : AllLabelsAreOnce
  pub same : NaiveIsSame
  pub good : UnitsAreGood

pub naive_code : (w : ℕ) (d : RawDescription) (m : Fixed) (t : Typed) (u : Program) → AreLaws → IsChecked w d → frame_in d ≡ Some m → MayBeExpanded d t → HasRoom d t
    → AreCodesFrom d m t 0 0 t.functions u.codes → IsPlaced (machine_of d m) (image_of u) t.statics
    → u.names.functions ≡ map (λ f. f.name) t.functions → u.names.objects ≡ map (λ s. s.object.name) t.statics → IsNaiveCode d t u
naive_code w d m t u laws c e h room codes placed functions objects =
    let target = is_target w d m laws.targets c e in
    let machine : IsSoundTarget (machine_of d m) (image_of u) = record {
      target = target;
      bytes = placed.bytes;
      symbols = placed.symbols;
      room = subst (λ (n : ℕ). d.base + n + d.stack ≤ d.memory) (sym placed.size) room.under;
    } in
    let unit : IsUnitOf (machine_of d m) m t (image_of u) = record {
      main = ap (λ (names : List (List ℕ)). number_in names main_name) functions ∙ main_is t.functions;
      functions = λ g f is. function_at d m t 0 0 t.functions u.codes g g f (omega arith) codes is;
      statics = placed.held;
      apart = placed.apart;
    } in
    record {
      frame = m;
      fixed = e;
      functions = functions;
      objects = objects;
      numbers = numbers_are d m t 0 0 t.functions u.codes codes;
      addresses = placed.count;
      machine = machine;
      unit = unit;
      labels = subst AreOnce (sym (labels_are d m t 0 0 t.functions u.codes codes)) (laws.labels [] d.word (pushed_by m.link (d.word / 8)) t t.functions 0);
      realised = each_code (AreRealised d) d m t 0 0 t.functions u.codes (λ k l f c h. h.realised) codes;
      elementary = each_code (AreElementary d) d m t 0 0 t.functions u.codes (λ k l f c h. h.elementary) codes;
      good = laws.good w d m [] t u c e h.proper machine unit.main (are_naive d m t 0 0 t.functions u.codes codes);
      same = λ input bytes clean. laws.same (machine_of d m) m t (image_of u) (is_fixed_by d m e) machine h.proper.sound unit input bytes clean;
    }
