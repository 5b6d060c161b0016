-- A text has at most one program.
use Rattle.std.proofs.Common.{◌≡◌, ℕ, List, [], ◌∷◌, map, Option, Some, slice_get, refl, sym, ap, subst, ◌∙◌}
use Rattle.std.specs.List.{AllZip}
use Rattle.asm_token.specs.Tokens.{Token}
use Rattle.rtl_tree.specs.declared.c_names.Names.{Names}
use Rattle.md_rows.specs.declared.description.RawDescription.{RawDescription}
use Rattle.md_rows.specs.declared.row.Row.{Row}
use Rattle.md_rows.specs.declared.instance.Bound.{Bound}
use Rattle.md_rows.specs.declared.instance.Instance.{Instance}
use Rattle.asm_row.specs.Readable.{IsReadable}
use Rattle.asm_row.specs.Reading.{Value, ReadsText, AreValues, value_in}
use Rattle.asm_row.proofs.HoleValues.{same_item}
use Rattle.asm_row.proofs.Texts.{text_once}
use Rattle.asm_row.proofs.Unique.{line_reads, same_place}
use Rattle.asm_program.specs.TextLines.{Said, lines_of}
use Rattle.asm_program.specs.Programs.{Assembled, instructions, IsLineIn, IsProgramOf, IsText, SameInstance, SameProgram}
use Rattle.asm_program.specs.Law.{SaysOneThing, HaveNames}
use Rattle.asm_program.proofs.Saying.{all_say_once}

all_values : (n : Names) (bs : List Bound) (vs : List Value) → AreValues n bs vs → map (value_in n) bs ≡ map (λ v. Some v) vs
all_values n [] [] a = refl
all_values n (b ∷ bs) (v ∷ vs) a = ap (λ (o : Option Value). o ∷ map (value_in n) bs) a.0 ∙ ap (λ (os : List (Option Value)). Some v ∷ os) (all_values n bs vs a.1)
all_values n [] (v ∷ vs) a = absurd a
all_values n (b ∷ bs) [] a = absurd a

module _ (d : RawDescription) (readable : IsReadable d) (m n : Names) (first : HaveNames m) (second : HaveNames n) where
  same_line : (ts : List Token) (i j : Instance) → IsLineIn d m ts i → IsLineIn d n ts j → SameInstance m n i j
  same_line ts i j a b =
      let r = line_reads d readable m first.objects first.functions i ts a.numbers a.line in
      let s = line_reads d readable n second.objects second.functions j ts b.numbers b.line in
      let places = same_place d readable i.row j.row r.row s.row ts r.at s.at in
      let rows = same_item r.row s.row (sym r.at.has ∙ ap (slice_get d.rows) places ∙ s.at.has) in
      let values : r.at.values ≡ s.at.values =
      text_once d.word d.registers readable.names s.row.text s.row.holes ts r.at.values s.at.values
      (subst (λ (x : Row). ReadsText d.word d.registers x.text x.holes ts r.at.values) rows r.at.reads) s.at.reads in
      record {
        row = places;
        values = all_values m i.binding r.at.values r.are ∙ ap (map (λ (v : Value). Some v)) values ∙ sym (all_values n j.binding s.at.values s.are);
      }

  same_lines : (tss : List (List Token)) (is js : List Instance) → AllZip (IsLineIn d m) tss is → AllZip (IsLineIn d n) tss js → AllZip (SameInstance m n) is js
  same_lines [] [] [] a b = tt
  same_lines [] [] (j ∷ js) a b = absurd b
  same_lines [] (i ∷ is) js a b = absurd a
  same_lines (ts ∷ tss) [] js a b = absurd a
  same_lines (ts ∷ tss) (i ∷ is) [] a b = absurd b
  same_lines (ts ∷ tss) (i ∷ is) (j ∷ js) a b = (same_line ts i j a.0 b.0, same_lines tss is js a.1 b.1)

pub one_program : SaysOneThing → (d : RawDescription) (text : List ℕ) (p q : Assembled) → IsReadable d → HaveNames p.names → HaveNames q.names
    → IsText d text p → IsText d text q → SameProgram p q
one_program once d text p q readable first second a b =
    let same : b.saids ≡ a.saids = all_say_once once (lines_of text) b.saids a.saids b.said a.said in
    let other = subst (λ (ss : List Said). IsProgramOf d ss q) same b.program in
    record {
      lines = same_lines d readable p.names q.names first second (instructions a.saids) p.lines q.lines a.program.lines other.lines;
      labels = λ l at. (λ x. (other.labels l at).1 ((a.program.labels l at).0 x), λ y. (a.program.labels l at).1 ((other.labels l at).0 y));
      objects = λ name address. (λ x. (other.objects name address).1 ((a.program.objects name address).0 x), λ y. (a.program.objects name address).1 ((other.objects name address).0 y));
      bytes = a.program.bytes ∙ sym other.bytes;
    }
