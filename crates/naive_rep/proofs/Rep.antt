-- Points of a run that stand for the storage of a source.
use Rattle.std.proofs.Common.{◌≡◌, ◌≢◌, ℕ, zero, suc, ◌+◌, ◌*◌, ◌-◌, ◌%◌, ◌/◌, ◌^◌, ◌≤◌, ◌<◌, List, [], ◌∷◌, Option, Some, None, refl, sym, ap, ◌∙◌, subst, arith}
use Rattle.std.specs.Prelude.{take, slice_get, slice_index, length}
use Rattle.behaviour.specs.Run.{AreBytes}
use Rattle.rtl_tree.specs.declared.cells.Cell.TheVariants.{Hard, Temp}
use Rattle.rtl_effect.specs.Views.{View, word_at}
use Rattle.c_tree.specs.declared.types.CType.{CType}
use Rattle.c_tree.specs.declared.typed.Variable.{Variable}
use Rattle.c_tree.specs.declared.typed.Variable.TheVariants as variable
use Rattle.c_tree.specs.declared.typed.Object.{Object}
use Rattle.c_tree.specs.declared.typed.Static.{Static}
use Rattle.c_tree.specs.declared.typed.Function.{Function}
use Rattle.c_tree.specs.declared.typed.Typed.{Typed}
use Rattle.c_limits.specs.Frames.{element_bytes, scalars}
use Rattle.c_meaning.specs.Operators.{as_type}
use Rattle.c_meaning.specs.Parts.{State, load}
use Rattle.c_meaning.specs.Expressions.{Kind, missing, scalar, array, type_in}
use Rattle.c_meaning.specs.Run.{kind_in, kind_of, kind_by}
use Rattle.temp_machine.specs.Routines.{Image, Target}
use Rattle.temp_machine.specs.Small.{Point}
use Rattle.naive_code.specs.Storage.{Base, Symbol, Frame, Storage, Temporary, Word, Elements, Missing, storage_of, local_in, local_storage, static_in, static_storage, scalar_count}
use Rattle.naive_step.proofs.Making.{Call}
use Rattle.naive_step.proofs.Acts.{SetsTemp}
use Rattle.naive_step.proofs.Memory.{word_same}
use Rattle.naive_rep.proofs.Rooms.{scalar_below}

-- the machine's value is the source's, where this is set
abbrev pub Told : Option ℕ → Option ℕ → Type 0
Told None y = Unit {0}
Told (Some v) y = y ≡ Some v

-- of an element, so many of its bytes
abbrev pub cut_to : ℕ → Option ℕ → Option ℕ
cut_to size None = None
cut_to size (Some v) = Some (v % 256 ^ size)

pub told_same : (o y z : Option ℕ) → z ≡ y → Told o y → Told o z
told_same None y z e h = tt
told_same (Some v) y z e h = e ∙ h

module _ (t : Target) (u : Image) (k : Call) where
  abbrev pub address_of : Base → ℕ
  address_of (Symbol y) = slice_index u.symbols y
  address_of (Frame offset) = k.base + offset

  -- the i-th value of an object stands where the object is kept
  abbrev pub Holds : Kind → Storage → ℕ → Option ℕ → Point → Type 0
  Holds (scalar of) (Temporary n) i v c = i ≡ 0 → Told v (c.view.cells (Temp n))
  Holds (scalar of) (Word y) i v c = i ≡ 0 → Told v (word_at c.view.bytes (slice_index u.symbols y) (t.word / 8))
  Holds (array of n) (Elements base by) i v c =
      i < n → Told (cut_to (element_bytes t.word by) v) (word_at c.view.bytes (address_of base + element_bytes t.word by * i) (element_bytes t.word by))
  Holds kind place i v c = Unit {0}

  -- what holds of a value holds at another point, where the temporaries of scalars and the bytes of objects are the same
  pub holds_like : (kind : Kind) (place : Storage) (i : ℕ) (v : Option ℕ) (c d : Point) → ((n : ℕ) → place ≡ Temporary n → (of : CType) → kind ≡ scalar of → i ≡ 0 → d.view.cells (Temp n) ≡ c.view.cells (Temp n))
      → ((a n : ℕ) → word_at d.view.bytes a n ≡ word_at c.view.bytes a n) → Holds kind place i v c → Holds kind place i v d
  holds_like (scalar of) (Temporary n) i v c d temps words h = λ z. told_same v _ _ (temps n refl of refl z) (h z)
  holds_like (scalar of) (Word y) i v c d temps words h = λ z. told_same v _ _ (words _ _) (h z)
  holds_like (scalar of) (Elements b by) i v c d temps words h = tt
  holds_like (scalar of) Missing i v c d temps words h = tt
  holds_like (array of n) (Temporary j) i v c d temps words h = tt
  holds_like (array of n) (Word y) i v c d temps words h = tt
  holds_like (array of n) (Elements b by) i v c d temps words h = λ lt. told_same (cut_to (element_bytes t.word by) v) _ _ (words _ _) (h lt)
  holds_like (array of n) Missing i v c d temps words h = tt
  holds_like missing place i v c d temps words h = tt

  module _ (source : Typed) (f : Function) where
    -- a point that stands for the storage: each object's values, each of its type, the input, and the stack register
    pub record Rep (s : State) (c : Point) : Type 0 where
      pub stack : c.view.cells (Hard t.sp) ≡ Some k.base
      pub input : c.view.input ≡ s.input
      pub bytes : AreBytes s.input
      pub held : (x : Variable) (i : ℕ) → Holds (kind_in source f x) (storage_of t.kept t.word source f x) i (load s x i) c
      pub typed : (x : Variable) (i v : ℕ) → load s x i ≡ Some v → as_type t.word (type_in (kind_in source f x)) v ≡ v

    -- nothing changes of what stands for the storage
    pub rep_like : (s : State) (c d : Point) → d.view.cells (Hard t.sp) ≡ c.view.cells (Hard t.sp) → d.view.input ≡ c.view.input
        → ((x : Variable) (n : ℕ) → storage_of t.kept t.word source f x ≡ Temporary n → (of : CType) → kind_in source f x ≡ scalar of → d.view.cells (Temp n) ≡ c.view.cells (Temp n))
        → ((b : ℕ) → d.view.bytes b ≡ c.view.bytes b) → Rep s c → Rep s d
    rep_like s c d stack input temps bytes r = record {
      stack = stack ∙ r.stack;
      input = input ∙ r.input;
      bytes = r.bytes;
      held = λ x i. holds_like (kind_in source f x) (storage_of t.kept t.word source f x) i (load s x i) c d (λ n is of kind z. temps x n is of kind)
          (λ a n. word_same c.view.bytes d.view.bytes a n (λ b low high. bytes b)) (r.held x i);
      typed = r.typed;
    }
