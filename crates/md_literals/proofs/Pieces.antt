-- The tokens of the rows of a text: those that are spelled, in place of modes too.
use Rattle.std.proofs.Common.{◌≡◌, ℕ, suc, ◌<◌, Bool, true, false, cond, ◌||◌, List, [], ◌∷◌, ◌++◌, length, map, flat_map, refl, arith, length-append}
use Rattle.std.specs.List.{cons_option, list_any}
use Rattle.std.specs.Str.{bytes_eq}
use Rattle.asm_token.specs.Tokens.{Token, Name as NameToken, Number as NumberToken, Mark as MarkToken, IsToken}
use Rattle.md_rows.specs.declared.description.Register.{Register}
use Rattle.md_rows.specs.declared.row.Hole.{Hole as RowHole}
use Rattle.md_text.specs.Lines.{Line}
use Rattle.md_text.specs.Pieces.{Kind, Named, Numbers, Symbols, Labels, Slot, Piece, Literal, Hole, SpellsPieces, at_end, after_space, literal, hole, SpellsText, slots, is_colon, has_name}
use Rattle.md_text.specs.Forms.{Form, Version, MachineName, WordBits, MemorySize, DataBegin, StackSize, RegisterLine, FlagLine, ClassLine, ModeLine, RowLine, HasForm}
use Rattle.md_text.specs.Declarations.{Declaration, HaveForms, register_of, registers_in, Alternative, alternative_of, alternatives_in, mode_names}
use Rattle.md_text.specs.Expansion.{Shown, Fixed, Vacant, taken_by, Filling, shown, filling_of, itself, alternatives_of, fillings, choices, replaced, Expanded, expanded, expansions_of, expansions}
use Rattle.md_text.specs.Rules.{is_reserved_token, is_reserved_piece, has_reserved_name}
use Rattle.md_text.specs.Accepted.{piece_of, pieces_from}
use Rattle.md_said.proofs.Lists.{Each, each_append, each_map, each_flat_map, each_filter}
use Rattle.md_said.proofs.Unbroken.{Unbroken}
use Rattle.md_literals.specs.Literals.{IsLiteralPiece}

-- what is spelled

abbrev IsSpelled : Piece → Type 0
IsSpelled (Literal t) = IsToken t × (is_colon t ≡ false)
IsSpelled (Hole h) = Unit {0}

spelled : (bs : List ℕ) (ps : List Piece) → SpellsPieces bs ps → Each IsSpelled ps
spelled bs ps at_end = tt
spelled bs ps (after_space cs qs s) = spelled cs qs s
spelled bs ps (literal t cs qs l s) = ((l.token, l.no_colon), spelled cs qs s)
spelled bs ps (hole h cs qs k s) = (tt, spelled cs qs s)

-- a literal that is also no reserved name

abbrev pub IsFree : Piece → Type 0
IsFree (Literal t) = IsToken t × (is_colon t ≡ false) × (is_reserved_token t ≡ false)
IsFree (Hole h) = Unit {0}

both_false : (a b : Bool) → (a || b) ≡ false → (a ≡ false) × (b ≡ false)
both_false true b h = let q : true ≡ false = h in absurd (cc)
both_false false b h = (refl, h)

free_piece : (p : Piece) → IsSpelled p → is_reserved_piece p ≡ false → IsFree p
free_piece (Literal t) s r = (s.0, s.1, r)
free_piece (Hole h) s r = tt

free_pieces : (ps : List Piece) → Each IsSpelled ps → list_any is_reserved_piece ps ≡ false → Each IsFree ps
free_pieces [] s r = tt
free_pieces (p ∷ ps) s r =
    let k = both_false (is_reserved_piece p) (list_any is_reserved_piece ps) r in
    (free_piece p s.0 k.0, free_pieces ps s.1 k.1)

-- some pieces, each free
pub record IsFreeText (ps : List Piece) : Type 0 where
  pub some : 0 < length ps
  pub each : Each IsFree ps

free_text : (bs : List ℕ) (ps : List Piece) → SpellsText bs ps → list_any is_reserved_piece ps ≡ false → IsFreeText ps
free_text bs ps s r = record { some = s.some; each = free_pieces ps (spelled bs ps s.spells) r }

abbrev pub IsFreeForm : Form → Type 0
IsFreeForm (RegisterLine k name role) = IsToken (NameToken name)
IsFreeForm (ModeLine name text tree) = IsFreeText text
IsFreeForm (RowLine text transfer) = IsFreeText text
IsFreeForm _ = Unit {0}

free_form : (w : ℕ) (line : List ℕ) (before : List Declaration) (form : Form) → HasForm w line form → has_reserved_name before form ≡ false → IsFreeForm form
free_form w line before (RegisterLine k name role) h r = h.named
free_form w line before (ModeLine name text tree) h r = free_text h.shown text h.pieces_are r
free_form w line before (RowLine text transfer) h r = free_text h.shown text h.pieces_are r
free_form w line before _ h r = tt

pub free_forms : (w : ℕ) (lines : List Line) (before ds : List Declaration) → HaveForms w lines ds → Unbroken has_reserved_name before ds → Each (λ d. IsFreeForm d.form) ds
free_forms w [] before [] h u = tt
free_forms w (l ∷ lines) before (d ∷ ds) h u = (free_form w l.bytes before d.form h.1 u.0, free_forms w lines (before ++ d ∷ []) ds h.2 u.1)
free_forms w [] before (d ∷ ds) h u = absurd h
free_forms w (l ∷ lines) before [] h u = absurd h

-- registers

register_cons : (form : Form) (rest : List Register) → IsFreeForm form → Each (λ r. IsToken (NameToken r.name)) rest
    → Each (λ r. IsToken (NameToken r.name)) (cons_option (register_of form) rest)
register_cons (RegisterLine k name role) rest h e = (h, e)
register_cons _ rest h e = e

pub registers_named : (ds : List Declaration) → Each (λ d. IsFreeForm d.form) ds → Each (λ r. IsToken (NameToken r.name)) (registers_in ds)
registers_named [] h = tt
registers_named (d ∷ ds) h = register_cons d.form (registers_in ds) h.0 (registers_named ds h.1)

-- what stands in place of holes

abbrev pub IsFreeShown : Shown → Type 0
IsFreeShown (Fixed t) = IsToken t × (is_colon t ≡ false) × (is_reserved_token t ≡ false)
IsFreeShown (Vacant h) = Unit {0}

pub record IsFreeList (text : List Shown) : Type 0 where
  pub some : 0 < length text
  pub each : Each IsFreeShown text

abbrev IsFreeFilling : Filling → Type 0
IsFreeFilling f = IsFreeList f.text

abbrev IsFreeAlternative : Alternative → Type 0
IsFreeAlternative a = IsFreeText a.text

abbrev pub IsFreeRow : Expanded → Type 0
IsFreeRow row = IsFreeList row.text

module _ (w : ℕ) (ds : List Declaration) where
  shown_free : (p : Piece) → IsFree p → IsFreeShown (shown w ds p)
  shown_free (Literal t) h = h
  shown_free (Hole s) h = tt

  some_shown : (ps : List Piece) → 0 < length ps → 0 < length (map (shown w ds) ps)
  some_shown [] h = h
  some_shown (p ∷ ps) h = omega arith

  mode_free : (a : Alternative) → IsFreeAlternative a → IsFreeFilling (filling_of w ds a)
  mode_free a h = record { some = some_shown a.text h.some; each = each_map IsFree IsFreeShown (shown w ds) shown_free a.text h.each }

  itself_free : (h : RowHole) → IsFreeFilling (itself h)
  itself_free h = record { some = omega arith; each = (tt, tt) }

  either_free : (b : Bool) (fs gs : List Filling) → Each IsFreeFilling fs → Each IsFreeFilling gs → Each IsFreeFilling (cond b fs gs)
  either_free true fs gs h k = h
  either_free false fs gs h k = k

  module _ (modes : Each IsFreeAlternative (alternatives_in ds)) where
    fillings_free : (kind : Kind) → Each IsFreeFilling (fillings w ds kind)
    fillings_free (Named name) =
        either_free (has_name (mode_names ds) name) (map (filling_of w ds) (alternatives_of ds name)) (itself (taken_by w ds (Named name)) ∷ [])
        (each_map IsFreeAlternative IsFreeFilling (filling_of w ds) mode_free (alternatives_of ds name)
        (each_filter IsFreeAlternative (λ x. bytes_eq x.mode name) (alternatives_in ds) modes))
        (itself_free (taken_by w ds (Named name)), tt)
    fillings_free (Numbers inverted range) = (itself_free (taken_by w ds (Numbers inverted range)), tt)
    fillings_free Symbols = (itself_free (taken_by w ds Symbols), tt)
    fillings_free Labels = (itself_free (taken_by w ds Labels), tt)

    -- something for each hole
    abbrev IsChoice : List Slot → List Filling → Type 0
    IsChoice [] [] = Unit {0}
    IsChoice (h ∷ hs) (f ∷ fs) = IsFreeFilling f × IsChoice hs fs
    IsChoice _ _ = ⊥

    choices_free : (hs : List Slot) → Each (IsChoice hs) (choices (map (λ h. fillings w ds h.kind) hs))
    choices_free [] = (tt, tt)
    choices_free (x ∷ hs) =
        each_flat_map IsFreeFilling (IsChoice (x ∷ hs)) (λ f. map (λ fs. f ∷ fs) (choices (map (λ h. fillings w ds h.kind) hs)))
        (λ f g. each_map (IsChoice hs) (IsChoice (x ∷ hs)) (λ fs. f ∷ fs) (λ fs k. (g, k)) (choices (map (λ h. fillings w ds h.kind) hs)) (choices_free hs))
        (fillings w ds x.kind) (fillings_free x.kind)

    replaced_free : (text : List Piece) (fs : List Filling) → Each IsFree text → IsChoice (slots text) fs → Each IsFreeShown (replaced text fs)
    replaced_free [] fs a c = tt
    replaced_free (Literal t ∷ text) fs a c = (a.0, replaced_free text fs a.1 c)
    replaced_free (Hole x ∷ text) [] a c = absurd c
    replaced_free (Hole x ∷ text) (f ∷ fs) a c = each_append IsFreeShown f.text (replaced text fs) c.0.each (replaced_free text fs a.1 c.1)

    longer : (xs ys : List Shown) → 0 < length xs → 0 < length (xs ++ ys)
    longer xs ys h = omega (arith, h, length-append xs ys)

    replaced_some : (text : List Piece) (fs : List Filling) → 0 < length text → IsChoice (slots text) fs → 0 < length (replaced text fs)
    replaced_some [] fs h c = h
    replaced_some (Literal t ∷ text) fs h c = omega arith
    replaced_some (Hole x ∷ text) [] h c = absurd c
    replaced_some (Hole x ∷ text) (f ∷ fs) h c = longer f.text (replaced text fs) c.0.some

    row_free : (line : ℕ) (form : Form) → IsFreeForm form → Each IsFreeRow (expansions_of w ds line form)
    row_free line (RowLine text t) h =
        each_map (IsChoice (slots text)) IsFreeRow (expanded line text t)
        (λ fs k. record { some = replaced_some text fs h.some k; each = replaced_free text fs h.each k })
        (choices (map (λ x. fillings w ds x.kind) (slots text))) (choices_free (slots text))
    row_free line (ModeLine n x y) h = tt
    row_free line Version h = tt
    row_free line (MachineName name) h = tt
    row_free line (WordBits z) h = tt
    row_free line (MemorySize z) h = tt
    row_free line (DataBegin z) h = tt
    row_free line (StackSize z) h = tt
    row_free line (RegisterLine k n role) h = tt
    row_free line (FlagLine k n) h = tt
    row_free line (ClassLine n ns) h = tt

    rows_of_free : (some : List Declaration) → Each (λ d. IsFreeForm d.form) some → Each IsFreeRow (flat_map (λ d. expansions_of w ds d.line d.form) some)
    rows_of_free [] h = tt
    rows_of_free (d ∷ some) h =
        each_append IsFreeRow (expansions_of w ds d.line d.form) (flat_map (λ d. expansions_of w ds d.line d.form) some)
        (row_free d.line d.form h.0) (rows_of_free some h.1)

alternative_cons : (form : Form) (rest : List Alternative) → IsFreeForm form → Each IsFreeAlternative rest → Each IsFreeAlternative (cons_option (alternative_of form) rest)
alternative_cons (ModeLine name text tree) rest h k = (h, k)
alternative_cons _ rest h k = k

alternatives_free : (ds : List Declaration) → Each (λ d. IsFreeForm d.form) ds → Each IsFreeAlternative (alternatives_in ds)
alternatives_free [] h = tt
alternatives_free (d ∷ ds) h = alternative_cons d.form (alternatives_in ds) h.0 (alternatives_free ds h.1)

pub rows_free : (w : ℕ) (ds : List Declaration) → Each (λ d. IsFreeForm d.form) ds → Each IsFreeRow (expansions w ds)
rows_free w ds h = rows_of_free w ds (alternatives_free ds h) ds h

-- the pieces of a row

piece_literal : (t : Token) → IsFreeShown (Fixed t) → IsLiteralPiece (piece_of t)
piece_literal (NameToken bytes) h = (h.0, h.2)
piece_literal (NumberToken z) h = h.0
piece_literal (MarkToken b) h = (h.0, h.1)

pub pieces_literal : (n : ℕ) (text : List Shown) → Each IsFreeShown text → Each IsLiteralPiece (pieces_from n text)
pieces_literal n [] h = tt
pieces_literal n (Fixed t ∷ text) h = (piece_literal t h.0, pieces_literal n text h.1)
pieces_literal n (Vacant x ∷ text) h = (tt, pieces_literal (suc n) text h.1)

pub some_pieces : (n : ℕ) (text : List Shown) → 0 < length text → 0 < length (pieces_from n text)
some_pieces n [] h = h
some_pieces n (Fixed t ∷ text) h = omega arith
some_pieces n (Vacant x ∷ text) h = omega arith
