-- A text declares at most one thing.
use Rattle.std.proofs.Common.{◌≡◌, ℕ, List, [], ◌∷◌, refl, sym, ap, subst, ◌∙◌, inl, inr, length, codes}
use Rattle.std.proofs.lemmas.Bool.{cases_Bool}
use Rattle.std.specs.Str.{bytes_eq}
use Rattle.rtl_word.specs.Words.{IsWordSize}
use Rattle.md_rows.specs.declared.description.RawDescription.{RawDescription}
use Rattle.md_text.specs.Lines.{Line, kept, width_of}
use Rattle.md_text.specs.Declarations.{Declaration, Declared, HaveForms, Declares}
use Rattle.md_text.specs.Accepted.{Says, description_of}
use Rattle.md_text.proofs.Splits.{falls_once}
use Rattle.md_text.proofs.FormTexts.{forms_once}

-- transfers are on words of 16 or 32 bits
pub width_size : (lines : List Line) → IsWordSize (width_of lines)
width_size [] = inr refl
width_size (a ∷ []) = inr refl
width_size (a ∷ b ∷ []) = inr refl
width_size (a ∷ b ∷ c ∷ lines) = elim (cases_Bool (bytes_eq c.bytes (codes "word 16"))) [
  | inl e ↦ rw e (inl refl)
  | inr e ↦ rw e (inr refl)
]

same_declaration : (d e : Declaration) → d.line ≡ e.line → d.form ≡ e.form → d ≡ e
same_declaration d e p q = λ i. record { line = p i; form = q i }

all_once : (w : ℕ) (lines : List Line) (ds es : List Declaration) → IsWordSize w → HaveForms w lines ds → HaveForms w lines es → ds ≡ es
all_once w [] [] [] h p q = refl
all_once w [] [] (e ∷ es) h p q = absurd q
all_once w [] (d ∷ ds) es h p q = absurd p
all_once w (l ∷ ls) [] es h p q = absurd p
all_once w (l ∷ ls) (d ∷ ds) [] h p q = absurd q
all_once w (l ∷ ls) (d ∷ ds) (e ∷ es) h p q =
    both d e ds es (same_declaration d e (p.0 ∙ sym q.0) (forms_once w l.bytes d.form e.form h p.1 q.1)) (all_once w ls ds es h p.2 q.2)
  where
    both : (d e : Declaration) (ds es : List Declaration) → d ≡ e → ds ≡ es → d ∷ ds ≡ e ∷ es
    both d e ds es p q = cc

same_declared : (d e : Declared) → d.width ≡ e.width → d.all ≡ e.all → d.last ≡ e.last → d ≡ e
same_declared d e p q r = λ i. record { width = p i; all = q i; last = r i }

pub declared_once : (text : List ℕ) (d e : Declared) → Declares text d → Declares text e → d ≡ e
declared_once text d e p q =
    let lines : p.lines ≡ q.lines = (falls_once text p.lines q.lines [] [] p.is_text q.is_text).0 in
    let width : d.width ≡ e.width = p.width ∙ ap (λ ls. width_of (kept ls)) lines ∙ sym q.width in
    let P : List (List ℕ) → Type 0 = λ ls. HaveForms d.width (kept ls) d.all in
    let Q : ℕ → Type 0 = λ w. HaveForms w (kept q.lines) d.all in
    let size : IsWordSize e.width = subst IsWordSize (sym q.width) (width_size (kept q.lines)) in
    let all : d.all ≡ e.all = all_once e.width (kept q.lines) d.all e.all size (subst Q width (subst P lines p.forms)) q.forms in
    same_declared d e width all (p.last ∙ ap (λ ls. length ls) lines ∙ sym q.last)

pub said_once : (text : List ℕ) (d e : RawDescription) → Says text d → Says text e → d ≡ e
said_once text d e p q = p.same ∙ ap description_of (declared_once text p.declared q.declared p.declares q.declares) ∙ sym q.same
