-- Lines read one by one.
use Rattle.std.proofs.Common.{◌≡◌, ℕ, ◌+◌, ◌<◌, ◌≤◌, zero, suc, List, [], ◌∷◌, ◌++◌, length, get_or, map, take, drop, sym, ap, subst, ◌∙◌, arith, add-one}
use Rattle.std.proofs.Math.Seq.{take-suc, drop-cons}
use Rattle.std.proofs.lemmas.List.{map-append, take-append-drop}
use Rattle.md_text.specs.Lines.{Line}
use Rattle.md_text.specs.Forms.{Form, HasForm}
use Rattle.md_text.specs.Declarations.{Declaration, HaveForms}
use Rattle.md_lines.specs.declared.lines.Line.{Line as ReadLine}
use Rattle.md_lines.specs.Kept.{line_of}
use Rattle.md_forms.specs.declared.declarations.Declaration.{Declaration as ReadDeclaration}
use Rattle.md_forms.specs.Seen.{form_of, declaration_of, declarations_of}
use Rattle.md_parser.specs.Formless.{AreShort, IsFirstFormless}

have_more : (w : ℕ) (ls : List Line) (ds : List Declaration) (l : Line) (d : Declaration) → HaveForms w ls ds → d.line ≡ l.number → HasForm w l.bytes d.form → HaveForms w (ls ++ l ∷ []) (ds ++ d ∷ [])
have_more w [] [] l d h e f = (e, f, tt)
have_more w [] (d' ∷ ds) l d h e f = absurd h
have_more w (l' ∷ ls) [] l d h e f = absurd h
have_more w (l' ∷ ls) (d' ∷ ds) l d h e f = (h.0, h.1, have_more w ls ds l d h.2 e f)

-- the line at a place is short
pub short_at : (ls : List ReadLine) (i : ℕ) (d : ReadLine) → i < length ls → AreShort (map line_of ls) → length (get_or ls i d).bytes.now ≤ 255
short_at [] i d l h = absurd (omega arith)
short_at (x ∷ ls) zero d l h = h.0
short_at (x ∷ ls) (suc i) d l h = short_at ls i d (omega arith) h.1

one_line : (ls : List ReadLine) (i : ℕ) (d : ReadLine) → i < length ls → map line_of (take (i + 1) ls) ≡ map line_of (take i ls) ++ line_of (get_or ls i d) ∷ []
one_line ls i d l = ap (λ k. map line_of (take k ls)) (add-one i) ∙ ap (map line_of) (take-suc ls i d l) ∙ map-append line_of (take i ls) (get_or ls i d ∷ [])

pub one_declared : (w : ℕ) (ls : List ReadLine) (i : ℕ) (x : ReadLine) (ds more : List ReadDeclaration) (d : ReadDeclaration) → i < length ls → HaveForms w (map line_of (take i ls)) (declarations_of ds)
    → d.line ≡ (get_or ls i x).number → HasForm w (get_or ls i x).bytes.now (form_of d.form) → more ≡ ds ++ d ∷ [] → HaveForms w (map line_of (take (i + 1) ls)) (declarations_of more)
one_declared w ls i x ds more d l h e f m =
    let declared : declarations_of more ≡ declarations_of ds ++ declaration_of d ∷ [] = ap declarations_of m ∙ map-append declaration_of ds (d ∷ []) in
    let P : List Line → Type 0 = λ ks. HaveForms w ks (declarations_of more) in
    let Q : List Declaration → Type 0 = λ es. HaveForms w (map line_of (take i ls) ++ line_of (get_or ls i x) ∷ []) es in
    subst P (sym (one_line ls i x l)) (subst Q (sym declared) (have_more w (map line_of (take i ls)) (declarations_of ds) (line_of (get_or ls i x)) (declaration_of d) h e f))

pub formless_at : (w : ℕ) (ls : List ReadLine) (i n : ℕ) (x : ReadLine) (ds : List ReadDeclaration) → i < length ls → HaveForms w (map line_of (take i ls)) (declarations_of ds)
    → n ≡ (get_or ls i x).number → ((form : Form) → HasForm w (get_or ls i x).bytes.now form → ⊥) → IsFirstFormless w (map line_of ls) n
formless_at w ls i n x ds l h e none = record {
  before = map line_of (take i ls);
  it = line_of (get_or ls i x);
  after = map line_of (drop (suc i) ls);
  split =
      ap (map line_of) (sym (take-append-drop i ls) ∙ ap (λ r. take i ls ++ r) (drop-cons ls i x l))
      ∙ map-append line_of (take i ls) (get_or ls i x ∷ drop (suc i) ls);
  number = e;
  said = declarations_of ds;
  have = h;
  never = none;
}
