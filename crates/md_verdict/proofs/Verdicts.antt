-- What the reading and the check of a description say of its text.
use Rattle.std.proofs.Common.{◌≡◌, ℕ, List, Result, Ok, Err, refl, sym, subst}
use Rattle.std.specs.Result.{IfErr, IsErrAnd, IsErrOf}
use Rattle.vp_io.specs.declared.answers.Reason.{Reason}
use Rattle.md_fault.specs.declared.MdFault.{MdFault}
use Rattle.md_fault.specs.declared.MdFault.TheVariants.{NoMemory, Bad}
use Rattle.md_rows.specs.declared.description.RawDescription.{RawDescription}
use Rattle.md_text.specs.Accepted.{Says}
use Rattle.md_reader.specs.Refused.{IsRefused}
use Rattle.md_check.specs.Accepted.{IsRefusedText, by_text, by_whole}
use Rattle.md_check.specs.Checking.{IsFault}
use Rattle.md_verdict.specs.declared.accepted.Accepted.{Accepted}
use Rattle.md_verdict.specs.Verdict.{IsRefusedFor, IsFaultOf}

-- a rule of whole descriptions

pub refused_whole : (text : List ℕ) (said : RawDescription) (r : Result Accepted MdFault) → Says text said → IfErr r (IsFault said)
    → IfErr r (IsFaultOf text)
refused_whole text said (Ok a) says told = tt
refused_whole text said (Err NoMemory) says told = tt
refused_whole text said (Err (Bad reason)) says told = record {
  refused = subst (λ n. IsRefusedText text reason.line n reason.detail) (sym told.number) (by_whole said told.rule reason.line reason.detail says told.told);
  column = told.column;
}

-- a rule of texts

refused_text : (text : List ℕ) (reason : Reason) → IsRefused text reason → IsRefusedFor text reason
refused_text text reason told =
    let by_rule = by_text told.rule reason.line told.told in
    let by_number : IsRefusedText text reason.line reason.rule 0 = subst (λ n. IsRefusedText text reason.line n 0) (sym told.number) by_rule in
    record { refused = subst (λ n. IsRefusedText text reason.line reason.rule n) (sym told.detail) by_number; column = told.column }

fault_of_text : (text : List ℕ) (f : MdFault) → ((reason : Reason) → IsErrOf {T = RawDescription} (Err f) (Bad reason) → IsRefused text reason) → IsFaultOf text f
fault_of_text text NoMemory told = tt
fault_of_text text (Bad reason) told = refused_text text reason (told reason refl)

-- the fault of the reading, handed on
pub refused_by_text : (text : List ℕ) (f : MdFault) (r : Result Accepted MdFault) → IsErrAnd r (λ e. e ≡ f)
    → ((reason : Reason) → IsErrOf {T = RawDescription} (Err f) (Bad reason) → IsRefused text reason) → IfErr r (IsFaultOf text)
refused_by_text text f (Ok a) same told = tt
refused_by_text text f (Err e) same told = subst (IsFaultOf text) (sym same) (fault_of_text text f told)
