use Rattle.std.proofs.Common.{◌≡◌, ℕ, Bool, true, false, sym, ap, subst, ◌∙◌}
use Rattle.md_rows.specs.declared.description.RawDescription.{RawDescription}
use Rattle.asm_row.specs.Readable.{IsReadable}
use Rattle.asm_row.specs.Walk.{IsLine}
use Rattle.asm_program.specs.declared.places.Part.{Part}
use Rattle.asm_program.specs.Rules.{is_in_place}
use Rattle.asm_labels.specs.declared.saying.Said.{Said as Held}
use Rattle.asm_labels.specs.Seen.{OnOthers, seen}
use Rattle.asm_faults.specs.Checks.{IsChecked, IsFirstHere, IsRowChecked}
use Rattle.asm_faults.proofs.LineRules.{unreadable, stood, misplaced, keeps, row_checked}
use Rattle.asm_faults.proofs.checking.line_fault.Goals as goal

not_both : (b : Bool) → b ≡ true → b ≡ false → ⊥
not_both b e f = cc

pub returns-then-is_unreadable-clause-checked : goal.returns-then-is_unreadable-clause-checked
returns-then-is_unreadable-clause-checked c all p ts labels shows on =
    unreadable c.args.d.now all p (seen c.args.said ts) ((c.is_unreadable.ensures ts).0 c.if-is_unreadable.true)

pub returns-then-not-is_first_here-clause-checked : goal.returns-then-not-is_first_here-clause-checked
returns-then-not-is_first_here-clause-checked c all p ts labels shows on =
    stood c.args.d.now all p (seen c.args.said ts)
    (λ f. not_both c.is_first_here.result ((c.is_first_here.ensures all ts labels).1 (subst (λ (n : ℕ). IsFirstHere all n (seen c.args.said ts)) shows.line f)) c.if-not-is_first_here.true)

pub returns-then-not-is_in_place-clause-checked : goal.returns-then-not-is_in_place-clause-checked
returns-then-not-is_in_place-clause-checked c all p ts labels shows on =
    misplaced c.args.d.now all p (seen c.args.said ts)
    (ap (λ (q : Part). is_in_place c.args.d.now.word q (seen c.args.said ts)) shows.part ∙ sym (c.is_in_place.ensures.place ts on) ∙ c.if-not-is_in_place.true)
    (subst (λ (n : ℕ). IsFirstHere all n (seen c.args.said ts)) (sym shows.line) ((c.is_first_here.ensures all ts labels).0 c.if-not-is_first_here.false))

pub row_fault-requires : goal.row_fault-requires
row_fault-requires c = record { readable = subst IsReadable (sym c.requires.rows) c.requires.readable }

pub returns-in-Others-clause-checked : goal.returns-in-Others-clause-checked
returns-in-Others-clause-checked c all p ts labels shows on =
    let e : is_in_place c.args.d.now.word p.part (seen c.args.said ts) ≡ true =
    ap (λ (q : Part). is_in_place c.args.d.now.word q (seen c.args.said ts)) shows.part ∙ sym (c.is_in_place.ensures.place ts on) ∙ c.if-not-is_in_place.false in
    subst (λ (h : Held). IsChecked c.args.d.now all p (seen h ts) c.row_fault.result) (sym c.in-Others.is)
    (row_checked c.args.d.now all p ts c.row_fault.result (subst (λ (h : Held). is_in_place c.args.d.now.word p.part (seen h ts) ≡ true) c.in-Others.is e)
    (subst (λ (x : RawDescription). IsRowChecked x all ts c.row_fault.result) c.requires.rows
    (c.row_fault.ensures all ts labels (subst (λ (h : Held). OnOthers h (IsLine c.args.line.now ts)) c.in-Others.is on))))

pub returns-in_default-clause-checked : goal.returns-in_default-clause-checked
returns-in_default-clause-checked c all p ts labels shows on =
    keeps c.args.d.now all p c.args.said ts (λ q. not_both c.is_unreadable.result ((c.is_unreadable.ensures ts).1 q) c.if-is_unreadable.false)
    (subst (λ (n : ℕ). IsFirstHere all n (seen c.args.said ts)) (sym shows.line) ((c.is_first_here.ensures all ts labels).0 c.if-not-is_first_here.false))
    (ap (λ (q : Part). is_in_place c.args.d.now.word q (seen c.args.said ts)) shows.part ∙ sym (c.is_in_place.ensures.place ts on) ∙ c.if-not-is_in_place.false)
    c.in_default.not-Others
