-- The code of a function, from its operations and its numbers.
use Rattle.std.proofs.Common.{◌≡◌, ℕ, suc, ◌+◌, ◌/◌, ◌^◌, ◌<◌, ◌≤◌, List, [], ◌∷◌, ◌++◌, map, length, drop, get_or, Option, Some, None, refl, sym, ap, subst, ◌∙◌, arith}
use Rattle.std.specs.Prelude.{slice_get}
use Rattle.std.proofs.lemmas.List.{append_assoc, append-nil, drop_all}
use Rattle.std.proofs.lemmas.List.Elements.{All-nil}
use Rattle.std.proofs.lemmas.Option.{slice_get_read}
use Rattle.rtl_word.specs.Words.{IsWordSize}
use Rattle.md_rows.specs.declared.description.RawDescription.{RawDescription}
use Rattle.md_rows.specs.declared.description.Role.TheVariants.{Stack, Result}
use Rattle.md_shapes.specs.Shapes.{Frame as Fixed}
use Rattle.md_covers.specs.Covers.{first_with, frame_with, frame_in}
use Rattle.md_check.specs.Checking.{IsChecked}
use Rattle.c_tree.specs.declared.typed.Function.{Function}
use Rattle.c_tree.specs.declared.typed.Typed.{Typed}
use Rattle.temp_machine.specs.Routines.{pushed_by}
use Rattle.temp_code.specs.declared.code.Code.{Code}
use Rattle.naive_code.specs.Operations.{Op}
use Rattle.naive_code.specs.Storage.{scalar_count}
use Rattle.naive_code.specs.Functions.{function_homes, numbers_from}
use Rattle.naive_run.specs.Law.{IsFixedBy}
use Rattle.temp_machine.specs.Units.{IsTarget}
use Rattle.temp_laws.specs.Targets.{TargetsAreSound}
use Rattle.naive_builder.specs.Appending.{Emitted, begun, Appends, opened}
use Rattle.naive_builder.specs.Finished.{finished, AreOnce, DoesOperations, FinishedDoesOperations}
use Rattle.naive_forms.specs.Codes.{IsBuilt}
use Rattle.naive_expr.specs.declared.emission.Emitter.{Emitter}
use Rattle.naive_expr.specs.declared.sites.Site.{Site}
use Rattle.naive_expr.specs.declared.operations.Op.{Op as Held}
use Rattle.naive_expr.specs.Seen.{op_of, ops_of}
use Rattle.naive_expr.specs.Emitted.{emitted}
use Rattle.naive_expr.specs.Tables.{IsSiteOf}
use Rattle.naive_stat.specs.Functions.{AreOperationsOf}
use Rattle.naive_fits.specs.Doable.{AreDoable}
use Rattle.naive_fits.specs.Labels.{LabelsAreOnce}
use Rattle.naive_fits.specs.Fitting.{OperationsFit}
use Rattle.naive_expand.specs.declared.frames.Frame.{Frame}
use Rattle.naive_expand.specs.declared.functions.Made.{Made}
use Rattle.naive_expand.specs.Frames.{IsFrameOf}
use Rattle.naive_expand.specs.Codes.{machine_of, HasNumbers, IsMadeOf, AreCodesFrom}
use Rattle.naive_expand.specs.Units.{MayBeExpanded}
use Rattle.naive_expand.proofs.Lists.{at_place}

same_fixed : (f g : Fixed) → Some f ≡ Some g → f ≡ g
same_fixed f g e = cc

-- what a description fixes of the shapes has its word and its memory
fixed_by : (d : RawDescription) (s q : Option ℕ) (m : Fixed) → frame_with d s q ≡ Some m → (m.bits ≡ d.word) × (m.memory ≡ d.memory)
fixed_by d (Some s) (Some q) m e =
    let k = same_fixed _ m e in
    (sym (ap (λ (f : Fixed). f.bits) k), sym (ap (λ (f : Fixed). f.memory) k))
fixed_by d (Some s) None m e = absurd (cc)
fixed_by d None q m e = absurd (cc)

pub is_fixed_by : (d : RawDescription) (m : Fixed) → frame_in d ≡ Some m → IsFixedBy (machine_of d m) m
is_fixed_by d m e =
    let k = fixed_by d (first_with Stack d.registers) (first_with Result d.registers) m e in
    record { bits = k.0; stack = refl; result = refl; link = refl; memory = k.1 }

pub some_function : (f g : Function) → Some f ≡ Some g → f ≡ g
some_function f g e = cc

pub is_target : (w : ℕ) (d : RawDescription) (m : Fixed) → TargetsAreSound → IsChecked w d → frame_in d ≡ Some m → IsTarget (machine_of d m)
is_target w d m sound c e = sound w d m [] c e (All-nil _) (λ i j x h k. let z : j < 0 = k in absurd (omega (arith, z)))

-- an accepted description has the word that it was checked for
pub checked_word : (w : ℕ) (d : RawDescription) → IsChecked w d → d.word ≡ w
checked_word w d c = subst (λ (e : RawDescription). e.word ≡ w) (sym c.normal) c.word

pub function_found : (fs gs : List Function) (i j : ℕ) (f : Function) → gs ≡ fs → j ≡ i → i < length fs → f ≡ get_or gs j f → slice_get fs i ≡ Some f
function_found fs gs i j f p q lt is =
    slice_get_read fs (length fs) i f refl lt (is ∙ (ap (λ (xs : List Function). get_or xs j f) p ∙ ap (λ (k : ℕ). get_or fs k f) q))

-- the operations that were made are the function's, where the site is the source's
pub operations_are : (d : RawDescription) (m : Fixed) (t : Typed) (f : Function) (label pushed : ℕ) (site : Site) (out : Emitter) → pushed ≡ pushed_by m.link (d.word / 8)
    → IsSiteOf d.word t.statics site → ((v : ℕ) (s : Typed) → IsSiteOf v s.statics site → AreOperationsOf v pushed s f label out)
    → AreOperationsOf d.word (pushed_by m.link (d.word / 8)) t f label out
operations_are d m t f label pushed site out p is are = subst (λ (n : ℕ). AreOperationsOf d.word n t f label out) p (are d.word t is)

emitted_is : (out : Emitter) → emitted out ≡ map op_of out.ops
unfolding emitted
emitted_is out = refl

pub doable_ops : (d : RawDescription) (out : Emitter) (ops : List Held) → ops ≡ out.ops → AreDoable d (emitted out) → AreDoable d (ops_of ops)
doable_ops d out ops e h = subst (λ (os : List Op). AreDoable d os) (emitted_is out ∙ sym (ap ops_of e)) h

-- what was appended to one empty block, once it is finished
pub built_by : (d : RawDescription) (m : Fixed) (label : ℕ) (out : Emitter) (ops : List Held) (s t : Emitted) (c : Code) → ops ≡ out.ops → s ≡ begun label
    → Appends d m s (ops_of ops) t → c.blocks ≡ finished t → IsBuilt d m label (emitted out) c
built_by d m label out ops s t c p q h blocks =
    let begins = subst (λ (x : Emitted). Appends d m x (ops_of ops) t) q h in
    record { emitted = t; appends = subst (λ (os : List Op). Appends d m (begun label) os t) (ap ops_of p ∙ sym (emitted_is out)) begins; blocks = blocks }

-- does the operations
pub does_by : (w : ℕ) (d : RawDescription) (m : Fixed) (label : ℕ) (out : Emitter) (c : Code) → FinishedDoesOperations → TargetsAreSound
    → IsChecked w d → IsWordSize d.word → frame_in d ≡ Some m → AreOnce (label ∷ opened (emitted out)) → IsBuilt d m label (emitted out) c
    → DoesOperations d m label (emitted out) c
does_by w d m label out c law sound checked size e once built =
    let memory = subst (λ (k : ℕ). k < 2 ^ d.word) (sym (is_fixed_by d m e).memory) (is_target w d m sound checked e).memory in
    law w d m label (emitted out) built.emitted c checked size memory built.appends once built.blocks

-- they can be made, and open each label once
pub are_doable : (d : RawDescription) (m : Fixed) (t : Typed) (number : ℕ) (f : Function) (label : ℕ) (out : Emitter) → OperationsFit → IsWordSize d.word → MayBeExpanded d t
    → slice_get t.functions number ≡ Some f → AreOperationsOf d.word (pushed_by m.link (d.word / 8)) t f label out → AreDoable d (emitted out)
are_doable d m t number f label out fit size h is are =
    subst (λ (os : List Op). AreDoable d os) (sym are.ops) (fit [] d m.link h.has t number f label size h.there h.proper.bounded h.proper.sound h.expandable is)

pub are_once : (d : RawDescription) (m : Fixed) (t : Typed) (f : Function) (label : ℕ) (out : Emitter) → LabelsAreOnce
    → AreOperationsOf d.word (pushed_by m.link (d.word / 8)) t f label out → AreOnce (label ∷ opened (emitted out))
are_once d m t f label out once are = subst (λ (os : List Op). AreOnce (label ∷ opened os)) (sym are.ops) (once [] d.word (pushed_by m.link (d.word / 8)) t f label)

-- the code that does them is the function's
pub made_by : (d : RawDescription) (m : Fixed) (t : Typed) (number : ℕ) (f : Function) (label params : ℕ) (r : Frame) (out : Emitter) (c : Code)
    → params ≡ length f.params → IsFrameOf d.word f r → AreOperationsOf d.word (pushed_by m.link (d.word / 8)) t f label out
    → HasNumbers number params r out.depths c → DoesOperations d m label (emitted out) c → IsBuilt d m label (emitted out) c
    → IsMadeOf d m t number f label (record { code = c; next_label = out.next_label })
made_by d m t number f label params r out c q frame are has does built =
    let done = subst (λ (os : List Op). DoesOperations d m label os c) are.ops does in
    let homes : numbers_from 16 r.scalars ++ map (λ k. 16 + r.scalars + k) out.depths ≡ function_homes [] d.word t f =
    ap (λ (n : ℕ). numbers_from 16 n ++ map (λ k. 16 + n + k) out.depths) frame.scalars
    ∙ ap (λ (ds : List ℕ). numbers_from 16 (scalar_count f) ++ map (λ k. 16 + scalar_count f + k) ds) are.depths in
    record {
      code = record {
        function = has.function;
        expands = record {
          params = has.params ∙ q;
          frame = has.frame ∙ frame.bytes;
          first_home = has.first_home ∙ frame.first_home;
          slots = has.slots ∙ frame.slots;
          homes = has.homes ∙ homes;
          last = done.last;
          stands = done.stands;
          returns = done.returns;
        };
        labels = done.labels;
        realised = done.realised;
        elementary = done.elementary;
        built = subst (λ (os : List Op). IsBuilt d m label os c) are.ops built;
      };
      next = are.next;
    }

-- ---- one code more

abbrev pub Left : RawDescription → Fixed → Typed → (i label : ℕ) → List Code → Type 0
Left d m t i label done = (more : List Code) → AreCodesFrom d m t i label (drop i t.functions) more → AreCodesFrom d m t 0 0 t.functions (done ++ more)

pub next_code : (d : RawDescription) (m : Fixed) (t : Typed) (i label : ℕ) (done : List Code) (made : Made) → i < length t.functions
    → ((f : Function) → slice_get t.functions i ≡ Some f → IsMadeOf d m t i f label made) → Left d m t i label done
    → Left d m t (i + 1) made.next_label (done ++ made.code ∷ [])
next_code d m t i label done made lt h left = λ more k.
    let x = at_place t.functions i lt in
    let is = h x.0 x.1 in
    let next : i + 1 ≡ suc i = omega arith in
    let behind = subst (λ (n : ℕ). AreCodesFrom d m t n made.next_label (drop n t.functions) more) next k in
    let all = subst (λ (l : ℕ). AreCodesFrom d m t (suc i) l (drop (suc i) t.functions) more) is.next behind in
    subst (AreCodesFrom d m t 0 0 t.functions) (sym (append_assoc done (made.code ∷ []) more))
    (left (made.code ∷ more) (subst (λ (fs : List Function). AreCodesFrom d m t i label fs (made.code ∷ more)) (sym x.2) (is.code, all)))

pub all_codes : (d : RawDescription) (m : Fixed) (t : Typed) (i label : ℕ) (done : List Code) → length t.functions ≤ i → Left d m t i label done
    → AreCodesFrom d m t 0 0 t.functions done
all_codes d m t i label done h left =
    subst (AreCodesFrom d m t 0 0 t.functions) (append-nil done)
    (left [] (subst (λ (fs : List Function). AreCodesFrom d m t i label fs []) (sym (drop_all i t.functions h)) tt))
