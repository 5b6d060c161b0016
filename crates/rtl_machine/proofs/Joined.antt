-- A call of `run` from a program's start comes to what the definition's run comes to.
use Rattle.std.proofs.Common.{◌≡◌, ℕ, ◌+◌, ◌≤◌, Bool, true, false, List, [], ◌++◌, take, length, Option, Some, None, refl, sym, ap, ◌∙◌, subst, append-nil, append_assoc, arith, map}
use Rattle.std.proofs.Math.Seq.{take-append_seam}
use Rattle.std.specs.Io.KnownBytes.{Appends, Consumes}
use Rattle.vp_io.specs.Contents.{AppendsPart}
use Rattle.behaviour.specs.Behaviour.{Behaviour, Running as GoingOn, Ended as EndedBy, Failed, output, IsPrefix, IsExtendedBy}
use Rattle.machine_run.specs.Machine.{Code, machine_run}
use Rattle.machine_run.proofs.Runs.{is_run}
use Rattle.machine_devices.specs.Devices.{Prints}
use Rattle.machine_step.specs.declared.running.Running.{Running}
use Rattle.machine_step.specs.declared.running.Stop.{Stop}
use Rattle.machine_step.specs.declared.running.Stop.TheVariants.{Ended, Trapped, Spent, ReadFault, WriteFault}
use Rattle.machine_forms.specs.Forms.{moves_of as moves_in}
use Rattle.machine_step.specs.Steps.{HasCauses, MarkMoves}
use Rattle.machine_step.specs.Runs.{MayFollow, RunIs, MadeAll, AllRan}
use Rattle.rtl_machine.specs.declared.parts.Parts.{Parts}
use Rattle.rtl_machine.specs.Loading.{IsLoaded}
use Rattle.rtl_machine.specs.Whole.{RunsTo, IsAllLeft, RunsFrom}

-- the input: what was taken, and what is left behind it

abbrev rest_in : Option (List ℕ) → Option (List ℕ) → List ℕ
rest_in (Some left) (Some left') = left'
rest_in _ _ = []

all_left : (left left' : Option (List ℕ)) (bytes : List ℕ) → Consumes left left' bytes → IsAllLeft left (bytes ++ rest_in left left')
all_left None left' bytes c = tt
all_left (Some xs) None bytes c = absurd c
all_left (Some xs) (Some ys) bytes c = sym c

none_follows : (left left' : Option (List ℕ)) (before now : Bool) (ends ends' : ℕ) (bytes : List ℕ) → before ≡ false → MarkMoves before now ends ends' left left' bytes → now ≡ true
    → rest_in left left' ≡ []
none_follows None left' before now ends ends' bytes e h k = refl
none_follows (Some xs) None before now ends ends' bytes e h k = refl
none_follows (Some xs) (Some ys) true now ends ends' bytes e h k = absurd (let z : true ≡ false = e in cc)
none_follows (Some xs) (Some ys) false true ends ends' bytes e h k = h.1
none_follows (Some xs) (Some ys) false false ends ends' bytes e h k = absurd (let z : false ≡ true = k in cc)

-- the output: what was printed, and nothing waits

written_all : (old new : Option (List ℕ)) (waited rest out : List ℕ) → waited ≡ [] → rest ≡ [] → Prints old waited new rest out → Appends old new out
written_all old new waited rest out e f h =
    subst (Appends old new) (sym (append-nil h.0) ∙ ap (λ x. h.0 ++ x) (sym f) ∙ sym h.2 ∙ ap (λ x. x ++ out) e) h.1

-- what is written is some first part of what is printed
written_part : (old new : Option (List ℕ)) (waited rest out : List ℕ) (whole : List ℕ) → waited ≡ [] → IsPrefix out whole → Prints old waited new rest out → AppendsPart old new whole
written_part old new waited rest out whole e f h =
    let split : whole ≡ h.0 ++ (rest ++ f.0) =
    f.1 ∙ ap (λ x. x ++ f.0) (sym (ap (λ x. x ++ out) e) ∙ h.2) ∙ append_assoc h.0 rest f.0 in
    (length h.0, subst (Appends old new) (sym (ap (take (length h.0)) split ∙ take-append_seam h.0 (rest ++ f.0))) h.1)

-- the run

prefix_of : (seen later : Behaviour) → IsExtendedBy seen later → IsPrefix (output seen) (output later)
prefix_of (GoingOn out) later h = h
prefix_of (EndedBy out status) later h = ([], ap output h ∙ sym (append-nil out))
prefix_of (Failed out why) later h = ([], ap output h ∙ sym (append-nil out))

module _ (w : ℕ) (p : Code) (n : Running) (old new : Option (List ℕ)) (waited rest bytes printed more : List ℕ) (made steps : ℕ) (none : waited ≡ [])
    (prints : Prints old waited new rest printed) (may : MayFollow n more) (within : made ≤ steps) where
  abbrev input : List ℕ
  input = bytes ++ more

  extends : IsExtendedBy (machine_run p input made) (machine_run p input steps)
  extends = (is_run p input).extends made steps within

  by_stop : (stop : Stop) → MadeAll (Some stop) made steps → RunIs w p n bytes printed made rest (Some stop) → RunsTo p input steps old new stop
  by_stop (Ended status) a r = (
    printed,
    (subst (λ (b : Behaviour). IsExtendedBy b (machine_run p input steps)) (r.1 more may) extends),
    (written_all old new waited rest printed none r.0 prints),
  )
  by_stop (Trapped kind place) a r = (
    printed,
    (subst (λ (b : Behaviour). IsExtendedBy b (machine_run p input steps)) (r.1 more may) extends),
    (written_all old new waited rest printed none r.0 prints),
  )
  by_stop Spent a r =
      let c = r.2 more may in
      let same : steps ≡ made + 0 = omega (arith, a) in (
        printed,
        (ap (λ k. machine_run p input k) same ∙ c.leads 0 ∙ ap (λ x. GoingOn x) c.printed_is),
        (written_all old new waited rest printed none r.0 prints),
      )
  by_stop ReadFault a r = (made, printed, within, (r.1 more may), (written_all old new waited rest printed none r.0 prints))
  by_stop WriteFault a r =
      let front = prefix_of (machine_run p input made) (machine_run p input steps) extends in
      written_part old new waited rest printed (output (machine_run p input steps)) none
      (subst (λ xs. IsPrefix xs (output (machine_run p input steps))) (r more may) front) prints

pub runs_from : (w : ℕ) (p : Code) (m : Parts) (n : Running) (left left' written written' : Option (List ℕ)) (reads reads' writes writes' ends ends' steps : ℕ) (stop : Stop)
    → IsLoaded w p m → AllRan w (map moves_in m.code.items) m.running n left left' written written' ends ends' steps (Some stop) → HasCauses reads reads' writes writes' (Some stop)
    → RunsFrom p steps left written written' reads reads' writes writes' stop
runs_from w p m n left left' written written' reads reads' writes writes' ends ends' steps stop l all causes =
    let f = all p l.code [] [] 0 l.run in
    let turns : 0 + f.made ≡ f.made = omega arith in
    record {
      input = f.bytes ++ rest_in left left';
      all = all_left left left' f.bytes f.consumes;
      runs = by_stop w p n written written' m.running.waiting f.rest f.bytes f.printed (rest_in left left') f.made steps l.waiting f.prints
          (none_follows left left' m.running.reader.ended n.reader.ended ends ends' f.bytes l.mark f.mark) f.within stop f.all
          (subst (λ k. RunIs w p n f.bytes f.printed k f.rest (Some stop)) turns f.run);
      causes = causes;
    }
