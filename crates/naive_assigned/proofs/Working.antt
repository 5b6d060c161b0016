-- What an operation leaves as it was, where it sets one temporary and uses up fresh ones.
use Rattle.std.proofs.Common.{◌≡◌, ◌≢◌, ℕ, zero, suc, ◌+◌, ◌*◌, ◌-◌, ◌/◌, ◌≤◌, ◌<◌, ◌⊎◌, inl, inr, List, [], ◌∷◌, Option, Some, None, refl, sym, ap, ◌∙◌, subst, arith}
use Rattle.std.specs.Prelude.{slice_index}
use Rattle.rtl_tree.specs.declared.cells.Cell.TheVariants.{Hard, Temp}
use Rattle.rtl_effect.specs.Views.{word_at}
use Rattle.md_shapes.specs.Shapes.{Frame as Fixed}
use Rattle.c_tree.specs.declared.typed.Variable.{Variable}
use Rattle.c_tree.specs.declared.typed.Function.{Function}
use Rattle.c_tree.specs.declared.typed.Typed.{Typed}
use Rattle.c_limits.specs.Frames.{element_bytes}
use Rattle.c_meaning.specs.Parts.{State, load}
use Rattle.c_meaning.specs.Expressions.{Kind, missing, scalar, array}
use Rattle.c_meaning.specs.Run.{kind_in}
use Rattle.temp_machine.specs.Routines.{Image, Target}
use Rattle.temp_machine.specs.Small.{Point}
use Rattle.naive_code.specs.Storage.{Base, Storage, Temporary, Word, Elements, Missing, storage_of, scalar_count, arrays_from}
use Rattle.naive_step.proofs.Making.{Call}
use Rattle.naive_step.proofs.Acts.{SetsTemp}
use Rattle.naive_step.proofs.Ways.{UsesUp}
use Rattle.naive_step.proofs.Extending.{Extends}
use Rattle.naive_step.proofs.Memory.{word_same}
use Rattle.naive_rep.proofs.Rooms.{within}
use Rattle.naive_rep.proofs.Rep.{Holds, Rep, told_same, cut_to, address_of}
use Rattle.naive_rep.proofs.Temporaries.{temporary_below}
use Rattle.naive_assigned.proofs.Areas.{Area, area_of}
use Rattle.naive_assigned.proofs.Ready.{Ready, area_in, object_outside}

module _ (t : Target) (u : Image) (m : Fixed) (source : Typed) (f : Function) (k : Call) where
  -- of the temporaries below a number one may change; the stack register and the input don't, nor bytes but those of outgoing arguments and homes
  pub record Works (a first : ℕ) (c d : Point) : Type 0 where
    pub temps : (j : ℕ) → j < first → j ≢ a → d.view.cells (Temp j) ≡ c.view.cells (Temp j)
    pub stack : d.view.cells (Hard t.sp) ≡ c.view.cells (Hard t.sp)
    pub bytes : (b : ℕ) → (b < k.base) ⊎ (k.base + arrays_from t.kept t.word f ≤ b) → d.view.bytes b ≡ c.view.bytes b
    pub input : d.view.input ≡ c.view.input
    pub printed : d.printed ≡ c.printed

  pub works_refl : (a first : ℕ) (c : Point) → Works a first c c
  works_refl a first c = record { temps = λ j lt ne. refl; stack = refl; bytes = λ b o. refl; input = refl; printed = refl }

  pub works_trans : (a first : ℕ) (c d e : Point) → Works a first c d → Works a first d e → Works a first c e
  works_trans a first c d e g h = record {
    temps = λ j lt ne. h.temps j lt ne ∙ g.temps j lt ne;
    stack = h.stack ∙ g.stack;
    bytes = λ b o. h.bytes b o ∙ g.bytes b o;
    input = h.input ∙ g.input;
    printed = h.printed ∙ g.printed;
  }

  -- of fewer temporaries less is said
  pub works_fewer : (a first fewer : ℕ) (c d : Point) → fewer ≤ first → Works a first c d → Works a fewer c d
  works_fewer a first fewer c d le g = record { temps = λ j lt ne. g.temps j (omega (arith, lt, le)) ne; stack = g.stack; bytes = g.bytes; input = g.input; printed = g.printed }

  -- what is done to a fresh temporary counts for any other one
  pub works_fresh : (b a first : ℕ) (c d : Point) → first ≤ b → Works b first c d → Works a first c d
  works_fresh b a first c d le g = record { temps = λ j lt ne. g.temps j lt (λ e. omega (arith, e, lt, le)); stack = g.stack; bytes = g.bytes; input = g.input; printed = g.printed }

  pub works_sets : (a first : ℕ) (x : Option ℕ) (c d : Point) → SetsTemp a x c d → Works a first c d
  works_sets a first x c d g = record { temps = λ j lt ne. g.others j ne; stack = g.regs t.sp; bytes = λ b o. g.bytes b; input = g.input; printed = g.printed }

  pub works_uses : (a spare first x : ℕ) (c d : Point) → first ≤ spare → UsesUp a spare x c d → Works a first c d
  works_uses a spare first x c d le g = record {
    temps = λ j lt ne. g.others j ne (λ e. omega (arith, e, lt, le));
    stack = g.regs t.sp;
    bytes = λ b o. g.bytes b;
    input = g.input;
    printed = g.printed;
  }

  not_lowest : (b : ℕ) → k.base < k.base + arrays_from t.kept t.word f → (b < k.base) ⊎ (k.base + arrays_from t.kept t.word f ≤ b) → b ≢ k.base
  not_lowest b some (inl lt) e = omega (arith, e, lt)
  not_lowest b some (inr le) e = omega (arith, e, le, some)

  pub works_extends : (a spare first x : ℕ) (c d : Point) → k.base < k.base + arrays_from t.kept t.word f → first ≤ spare → Extends k.base a spare x c d → Works a first c d
  works_extends a spare first x c d some le g = record {
    temps = λ j lt ne. g.others j ne (λ e. omega (arith, e, lt, le));
    stack = g.regs t.sp;
    bytes = λ b o. g.bytes b (not_lowest b some o);
    input = g.input;
    printed = g.printed;
  }

  module _ (ready : Ready t u m source f k) (a first : ℕ) (c d : Point) (scalars_below : scalar_count f ≤ a) (fresh : scalar_count f ≤ first) (w : Works a first c d) where
    same_word : (z : Area) → (z.from + z.count ≤ k.base) ⊎ (k.base + arrays_from t.kept t.word f ≤ z.from) → (at n : ℕ) → z.from ≤ at → at + n ≤ z.from + z.count
        → word_at d.view.bytes at n ≡ word_at c.view.bytes at n
    same_word z (inl le) at n from to = word_same c.view.bytes d.view.bytes at n (λ b low high. w.bytes b (inl (omega (arith, le, to, high))))
    same_word z (inr le) at n from to = word_same c.view.bytes d.view.bytes at n (λ b low high. w.bytes b (inr (omega (arith, le, from, low))))

    holds_works : (x : Variable) (g : Kind) (p : Storage) → kind_in source f x ≡ g → storage_of t.kept t.word source f x ≡ p → (i : ℕ) (v : Option ℕ) → Holds t u k g p i v c → Holds t u k g p i v d
    holds_works x (scalar of) (Temporary n) kind place i v h =
        λ z. told_same v _ _ (let below = temporary_below t.kept t.word source f x n place of kind in w.temps n (omega (arith, below, fresh)) (λ e. omega (arith, e, below, scalars_below))) (h z)
    holds_works x (scalar of) (Word y) kind place i v h =
        let z : Area = record { from = slice_index u.symbols y; count = t.word / 8 } in
        let is : area_in t u m source f k ready x ≡ Some z = ap (λ g. area_of t u k g (storage_of t.kept t.word source f x)) kind ∙ ap (area_of t u k (scalar of)) place in
        λ zero_is. told_same v _ _ (same_word z (object_outside t u m source f k ready x z is) _ _ (omega arith) (omega arith)) (h zero_is)
    holds_works x (scalar of) (Elements b by) kind place i v h = tt
    holds_works x (scalar of) Missing kind place i v h = tt
    holds_works x (array of n) (Temporary j) kind place i v h = tt
    holds_works x (array of n) (Word y) kind place i v h = tt
    holds_works x (array of n) (Elements b by) kind place i v h =
        let z : Area = record { from = address_of t u k b; count = n * element_bytes t.word by } in
        let is : area_in t u m source f k ready x ≡ Some z = ap (λ g. area_of t u k g (storage_of t.kept t.word source f x)) kind ∙ ap (area_of t u k (array of n)) place in
        λ lt. told_same (cut_to (element_bytes t.word by) v) _ _
        (same_word z (object_outside t u m source f k ready x z is) _ _ (omega arith) (let e = within (element_bytes t.word by) i n lt in omega (arith, e))) (h lt)
    holds_works x (array of n) Missing kind place i v h = tt
    holds_works x missing p kind place i v h = tt

    pub rep_works : (s : State) → Rep t u k source f s c → Rep t u k source f s d
    rep_works s r = record {
      stack = w.stack ∙ r.stack;
      input = w.input ∙ r.input;
      bytes = r.bytes;
      held = λ x i. holds_works x (kind_in source f x) (storage_of t.kept t.word source f x) refl refl i (load s x i) (r.held x i);
      typed = r.typed;
    }
