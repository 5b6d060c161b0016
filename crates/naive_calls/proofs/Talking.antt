-- The input and the output: `getchar` and `putchar`.
use Rattle.std.proofs.Common.{◌≡◌, ◌≢◌, ℕ, zero, suc, ◌+◌, ◌-◌, ◌*◌, ◌%◌, ◌^◌, ◌≤◌, ◌<◌, ◌⊎◌, inl, inr, List, [], ◌∷◌, ◌++◌, map, Option, Some, None, Ok, refl, sym, ap, ◌∙◌, subst, arith, true, false}
use Rattle.std.specs.Prelude.{bit_and}
use Rattle.std.proofs.lemmas.List.{append-nil}
use Rattle.std.proofs.lemmas.List.Elements.{All-head, All-tail}
use Rattle.std.proofs.lemmas.Nat.{and_mask, pow_pos}
use Rattle.behaviour.specs.Run.{AreBytes}
use Rattle.rtl_word.specs.Words.{IsWordSize}
use Rattle.rtl_word.proofs.Below.{by_size}
use Rattle.rtl_tree.specs.declared.cells.Cell.TheVariants.{Hard, Temp}
use Rattle.rtl_effect.specs.Effects.{next_in, rest_of}
use Rattle.md_shapes.specs.declared.patterns.Pattern.TheVariants as shape
use Rattle.md_shapes.specs.Shapes.{Frame as Fixed}
use Rattle.c_tree.specs.declared.token.At.{At as Spot}
use Rattle.c_tree.specs.declared.types.CType.{CType}
use Rattle.c_tree.specs.declared.typed.Variable.{Variable}
use Rattle.c_tree.specs.declared.typed.Variable.TheVariants as variable
use Rattle.c_tree.specs.declared.typed.Function.{Function}
use Rattle.c_tree.specs.declared.typed.Typed.{Typed}
use Rattle.c_meaning.specs.Operators.{as_type}
use Rattle.c_meaning.specs.Parts.{State, Part, Gives, then_do, give, demand, load, with_input, Value as Result, word, absent}
use Rattle.c_meaning.specs.Expressions.{Evaluation, getchar, putchar, in_order}
use Rattle.c_meaning.specs.Run.{kind_in}
use Rattle.temp_machine.specs.Routines.{Image, Target}
use Rattle.temp_machine.specs.Live.{Place}
use Rattle.temp_machine.specs.Small.{Point}
use Rattle.naive_code.specs.Operations as code
use Rattle.naive_code.specs.Operations.{Op, on_two}
use Rattle.naive_code.specs.Storage.{storage_of, scalar_count, arrays_from}
use Rattle.naive_code.specs.Expressions.{Value, Naive, leaf, put_character}
use Rattle.naive_run.specs.Sound.{is_word}
use Rattle.naive_run.specs.Standing.{shaped, One}
use Rattle.naive_step.proofs.Memory.{word_same}
use Rattle.naive_step.proofs.Doing.{Does, any, does_then, there, came, comes}
use Rattle.naive_step.proofs.Making.{Call, Inside, At, routine_in}
use Rattle.naive_step.proofs.Acts.{SetsTemp, SetsReg, Prints, take, put, set_reg}
use Rattle.naive_step.proofs.Ways.{make_has}
use Rattle.naive_assigned.proofs.Ready.{Ready, frame_is}
use Rattle.naive_assigned.proofs.Working.{Works, works_sets, works_fresh, rep_works}
use Rattle.naive_rep.proofs.Rep.{Rep, Holds, rep_like, holds_like}
use Rattle.naive_values.proofs.Typed.{as_word}
use Rattle.naive_values.proofs.Getting.{To, Ops, Gets, gets_after, sets_number, to_then, to_as, to_place, stands_split}
use Rattle.naive_values.proofs.Asked.{IsFresh, Stands_for, Since, since_refl, since_trans, since_works, Has, Has_word, ValueDoes}
use Rattle.naive_calls.proofs.Calling.{values_of, All_do, Hold, HasArgs, args_do}
use Rattle.naive_values.proofs.Operating.{met}
use Rattle.naive_calls.proofs.Invoking.{reads_result}

byte_small : (w b : ℕ) → IsWordSize w → b < 256 → b < 2 ^ w
byte_small w b z lt = by_size (λ w. b < 2 ^ w) (omega (arith, lt)) (omega (arith, lt)) w z

module _ (t : Target) (u : Image) (m : Fixed) (source : Typed) (f : Function) (k : Call) (ready : Ready t u m source f k) where
  abbrev Code : List Op → Place → Place → Type 0
  Code = Ops t u m source f k ready

  -- the result register is another one than the stack register
  other_register : t.sp ≢ m.result
  other_register e = ready.target.stack_is_no_result (e ∙ ready.fixed.result)

  same_objects : (bs : List ℕ) (s : State) (x : Variable) (i : ℕ) → load (with_input bs s) x i ≡ load s x i
  same_objects bs s (variable.Static x) i = refl
  same_objects bs s (variable.Parameter x) i = refl
  same_objects bs s (variable.Local x) i = refl

  -- the input is another one, and all else as it was
  rep_input : (bs : List ℕ) (s : State) (c d : Point) → d.view.cells (Hard t.sp) ≡ c.view.cells (Hard t.sp) → ((j : ℕ) → d.view.cells (Temp j) ≡ c.view.cells (Temp j)) → ((b : ℕ) → d.view.bytes b ≡ c.view.bytes b)
      → d.view.input ≡ bs → AreBytes bs → Stands_for t u m source f k ready s c → Stands_for t u m source f k ready (with_input bs s) d
  rep_input bs s c d stack temps bytes input are r = record {
    stack = stack ∙ r.stack;
    input = input;
    bytes = are;
    held = λ x i.
        subst (λ o. Holds t u k (kind_in source f x) (storage_of t.kept t.word source f x) i o d) (sym (same_objects bs s x i))
        (holds_like t u k (kind_in source f x) (storage_of t.kept t.word source f x) i (load s x i) c d (λ n is of kind z. temps n)
        (λ a n. word_same c.view.bytes d.view.bytes a n (λ b low high. bytes b)) (r.held x i));
    typed = λ x i v e. r.typed x i v (sym (same_objects bs s x i) ∙ e);
  }

  -- a byte was taken, and stands in the result register
  record Took (x : ℕ) (s : State) (c d : Point) : Type 0 where
    rep : Stands_for t u m source f k ready s d
    temps : (j : ℕ) → d.view.cells (Temp j) ≡ c.view.cells (Temp j)
    bytes : (b : ℕ) → d.view.bytes b ≡ c.view.bytes b
    result : d.view.cells (Hard t.result) ≡ Some x
    printed : d.printed ≡ c.printed

  module _ (n : ℕ) where
    getchar_does : (of : CType) → is_word of ≡ true → ValueDoes t u m source f k ready n of (λ s. getchar t.word s.input s) (leaf (λ a. code.take_input ∷ code.read_result a ∷ []))
    getchar_does of words first label p q c s fresh (r, one, rest) i h rep = by_input s.input refl
      where
        taken : To t u m source f k ready r (SetsReg m.result (Some (next_in t.word c.view.input)) (rest_of c.view.input) c) c
        taken = take t u m k ready.fits (shaped shape.TakeInput (on_two 0 0)) p r c (make_has t u m k ready.fits _ _ p r one) i h m.result refl

        finish : (x : ℕ) (s' : State) → x < 2 ^ t.word → ((d : Point) → SetsReg m.result (Some (next_in t.word c.view.input)) (rest_of c.view.input) c d → Took x s' c d)
            → Does t u n c (Has t u m source f k ready of first first q c) (give (word x) s')
        finish x s' small took =
            let to = to_then t u m source f k ready r q _ (λ e. (Stands_for t u m source f k ready s' e × Since t u m source f k ready first c e) × ((e.view.cells (Temp first) ≡ Some x) × (e.printed ≡ c.printed))) c taken
            (λ d j at g.
            let b = took d g in
            to_as t u m source f k ready q _ _ d (reads_result t u m source f k ready first r q d j at rest)
            (λ e w.
            let works = works_sets t u m source f k first first (d.view.cells (Hard t.result)) d e w in (
              (
                rep_works t u m source f k ready first first d e fresh fresh works s' b.rep,
                since_trans t u m source f k ready first first c d e (omega arith) (record { temps = λ j from below. b.temps j; above = λ a from. b.bytes a }) (since_works t u m source f k ready first first first d e (omega arith) (omega arith) works),
              ),
              (w.temp ∙ b.result, w.printed ∙ b.printed),
            ))) in
            came t u n c to.point (Has t u m source f k ready of first first q c) (word x) s' to.comes to.fact.1.1 (record {
              inside = to.inside;
              at = to.at;
              rep = to.fact.0.0;
              since = to.fact.0.1;
              value = (to.fact.1.0, as_word t.word of x words small, small);
            })

        by_input : (bs : List ℕ) → s.input ≡ bs → Does t u n c (Has t u m source f k ready of first first q c) (getchar t.word bs s)
        by_input [] e =
            let none_left : c.view.input ≡ [] = rep.input ∙ e in
            finish (2 ^ t.word - 1) s (let some = pow_pos t.word in omega (arith, some)) (λ d g. record {
              rep = rep_like t u k source f s c d (g.others t.sp other_register) (g.input ∙ (ap rest_of none_left ∙ sym none_left)) (λ x j is of kind. g.temps j) g.bytes rep;
              temps = g.temps;
              bytes = g.bytes;
              result = ap (λ j. d.view.cells (Hard j)) (sym ready.fixed.result) ∙ (g.reg ∙ ap (λ z. Some (next_in t.word z)) none_left);
              printed = g.printed;
            })
        by_input (b ∷ bs) e =
            let left : c.view.input ≡ b ∷ bs = rep.input ∙ e in
            let are : AreBytes (b ∷ bs) = subst AreBytes e rep.bytes in
            let small : b < 256 = All-head (λ byte. byte < 256) b bs are in
            finish b (with_input bs s) (byte_small t.word b ready.target.size small) (λ d g. record {
              rep = rep_input bs s c d (g.others t.sp other_register) g.temps g.bytes (g.input ∙ ap rest_of left) (All-tail (λ byte. byte < 256) b bs are) rep;
              temps = g.temps;
              bytes = g.bytes;
              result = ap (λ j. d.view.cells (Hard j)) (sym ready.fixed.result) ∙ (g.reg ∙ ap (λ z. Some (next_in t.word z)) left);
              printed = g.printed;
            })

    -- a call without arguments
    pub takes_character : (of : CType) → is_word of ≡ true → ValueDoes t u m source f k ready n of (λ s. then_do (in_order [] s) (λ vs s1. getchar t.word s1.input s1)) (leaf (λ a. code.take_input ∷ code.read_result a ∷ []))
    takes_character of words first label p q c s fresh ops i h rep =
        does_then t u n c (λ vs s1 d. (d ≡ c) × (s1 ≡ s)) (Has t u m source f k ready of first first q c) (in_order [] s) (λ vs s1. getchar t.word s1.input s1)
        (there t u n c (λ vs s1 d. (d ≡ c) × (s1 ≡ s)) [] s (refl, refl))
        (λ vs s1 d g.
        subst (λ d. Does t u n d (Has t u m source f k ready of first first q c) (getchar t.word s1.input s1)) (sym g.0)
        (subst (λ s1. Does t u n c (Has t u m source f k ready of first first q c) (getchar t.word s1.input s1)) (sym g.1) (getchar_does of words first label p q c s fresh ops i h rep)))

    -- what is printed: the low byte, which is the value too
    record Printed (a x first : ℕ) (c d : Point) : Type 0 where
      temp : d.view.cells (Temp a) ≡ Some (x % 256)
      temps : (j : ℕ) → j < first → j ≢ a → d.view.cells (Temp j) ≡ c.view.cells (Temp j)
      stack : d.view.cells (Hard t.sp) ≡ c.view.cells (Hard t.sp)
      bytes : (b : ℕ) → (b < k.base) ⊎ (k.base + arrays_from t.kept t.word f ≤ b) → d.view.bytes b ≡ c.view.bytes b
      input : d.view.input ≡ c.view.input
      printed : d.printed ≡ c.printed ++ x % 256 ∷ []

    prints : (a spare x : ℕ) (p q : Place) (c : Point) → a < spare → Inside t u k c → At t u p c → c.view.cells (Temp a) ≡ Some x
        → Code (code.set_result a ∷ code.put_output ∷ code.constant spare 255 ∷ code.Meet a spare ∷ []) p q → To t u m source f k ready q (Printed a x spare c) c
    prints a spare x p q c lt i h holds (r1, one, (r2, two, (r3, three, last))) =
        to_then t u m source f k ready r1 q (SetsReg m.result (c.view.cells (Temp a)) c.view.input c) (Printed a x spare c) c
        (set_reg t u m k ready.fits (shaped shape.SetResult (on_two a a)) p r1 c (make_has t u m k ready.fits _ _ p r1 one) i h m.result a refl)
        (λ d j at g.
        to_then t u m source f k ready r2 q (Prints x d) (Printed a x spare c) d
        (put t u m k ready.fits (shaped shape.PutOutput (on_two 0 0)) r1 r2 d (make_has t u m k ready.fits _ _ r1 r2 two) j at m.result x refl (g.reg ∙ holds))
        (λ e j' at' b.
        to_as t u m source f k ready q (Gets t u m source f k ready a (x % 256) spare e) (Printed a x spare c) e
        (gets_after t u m source f k ready a (x % 256) spare r3 q (SetsTemp spare (Some 255) e) e (sets_number t u m source f k ready r2 r3 e j' at' spare 255 three)
        (λ w y. works_fresh t u m source f k spare a spare e w (omega arith) (works_sets t u m source f k spare spare (Some 255) e w y))
        (λ w j2 at2 y.
        to_as t u m source f k ready q _ _ w
        (met t u m source f k ready r3 q w j2 at2 a spare x 255 spare (λ z. omega (arith, z, lt)) (omega arith) (byte_small t.word 255 ready.target.size (omega arith))
        (y.others a (λ z. omega (arith, z, lt)) ∙ (b.temps a ∙ (g.temps a ∙ holds))) y.temp last)
        (λ w' y'. record { temp = y'.temp ∙ ap Some (and_mask x 8); works = y'.works })))
        (λ w y. record {
          temp = y.temp;
          temps = λ j less ne. y.works.temps j less ne ∙ (b.temps j ∙ g.temps j);
          stack = y.works.stack ∙ (b.regs t.sp ∙ g.others t.sp other_register);
          bytes = λ a' out. y.works.bytes a' out ∙ (b.bytes a' ∙ g.bytes a');
          input = y.works.input ∙ (b.input ∙ g.input);
          printed = y.works.printed ∙ (b.printed ∙ ap (λ o. o ++ x % 256 ∷ []) g.printed);
        })))

    pub puts_character : (X : Type 0) (ev : X → Evaluation) (nv : X → Naive) (of : CType) (x : X) (spot : Spot) → is_word of ≡ true → IsFresh (nv x).value
        → ValueDoes t u m source f k ready n (ev x).of (ev x).value (nv x).value
        → ValueDoes t u m source f k ready n of (λ s. then_do (in_order (ev x ∷ []) s) (λ vs s1. putchar spot vs s1)) (put_character ((nv x).value ∷ []))
    puts_character X ev nv of x spot words fresh_v does first label p q c s fresh ops i h rep =
        let v = (nv x).value in
        let os = code.set_result (v.result first) ∷ code.put_output ∷ code.constant (first + v.temps) 255 ∷ code.Meet (v.result first) (first + v.temps) ∷ [] in
        let parts = stands_split t u m k (v.ops first label) os p q ops in
        let evaluate : Code (v.ops first label ++ []) p parts.0 = subst (λ z. Code z p parts.0) (sym (append-nil (v.ops first label))) parts.1 in
        does_then t u n c (HasArgs t u m source f k ready X ev nv (x ∷ []) first parts.0 c) (Has t u m source f k ready of (v.result first) first q c) (in_order (ev x ∷ []) s) (λ vs s1. putchar spot vs s1)
        (args_do t u m source f k ready X ev nv n (x ∷ []) ((fresh_v, does), tt) first label p parts.0 c s fresh evaluate i h rep)
        (λ vs s1 d b. each vs s1 d parts.0 b parts.2)
      where
        each : (vs : List ℕ) (s1 : State) (d : Point) (r : Place) → HasArgs t u m source f k ready X ev nv (x ∷ []) first r c vs s1 d
            → Code (code.set_result ((nv x).value.result first) ∷ code.put_output ∷ code.constant (first + (nv x).value.temps) 255 ∷ code.Meet ((nv x).value.result first) (first + (nv x).value.temps) ∷ []) r q
            → Does t u n d (Has t u m source f k ready of ((nv x).value.result first) first q c) (putchar spot vs s1)
        each [] s1 d r b rest = absurd b.hold
        each (w ∷ w' ∷ ws) s1 d r b rest = absurd b.hold.1
        each (w ∷ []) s1 d r b rest =
            let v = (nv x).value in
            let a = v.result first in
            let spare = first + v.temps in
            let from = fresh_v.from first in
            let to = prints a spare w r q d (fresh_v.to first) b.inside b.at b.hold.0.0 rest in
            let g = to.fact in
            let works : Works t u m source f k a spare d (quiet d to.point) = record { temps = g.temps; stack = g.stack; bytes = g.bytes; input = g.input; printed = refl } in
            let small : w % 256 < 2 ^ t.word = byte_small t.word (w % 256) ready.target.size (omega arith) in
            comes (w % 256 ∷ []) (word (w % 256)) s1 to.point to.comes g.printed (record {
              inside = to.inside;
              at = to.at;
              rep = rep_quiet d s1 to.point (rep_works t u m source f k ready a spare d (quiet d to.point) (omega (arith, fresh, from)) (omega (arith, fresh)) works s1 b.rep);
              since = since_trans t u m source f k ready first first c d to.point (omega arith) b.since (record {
                temps = λ j least below. g.temps j (omega (arith, below)) (λ z. omega (arith, z, below, from));
                above = λ a' above. g.bytes a' (inr (let ends = frame_is t u m source f k ready in omega (arith, ends, above)));
              });
              value = (g.temp, as_word t.word of (w % 256) words small, small);
            })
          where
            -- the same point, as if nothing had been printed
            quiet : Point → Point → Point
            quiet d e = record { state = e.state; at = e.at; view = e.view; printed = d.printed }

            rep_quiet : (d : Point) (s1 : State) (e : Point) → Stands_for t u m source f k ready s1 (quiet d e) → Stands_for t u m source f k ready s1 e
            rep_quiet d s1 e z = record { stack = z.stack; input = z.input; bytes = z.bytes; held = λ y j. holds_like t u k (kind_in source f y) (storage_of t.kept t.word source f y) j (load s1 y j) (quiet d e) e (λ i is by kind zero_is. refl) (λ a i. refl) (z.held y j); typed = z.typed }
