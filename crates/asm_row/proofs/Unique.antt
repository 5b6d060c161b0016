-- A line is that of one instance at most.
use Rattle.std.proofs.Common.{◌≡◌, ℕ, zero, suc, List, [], ◌∷◌, Some, slice_get, All, refl, sym, ap, subst, ◌∙◌}
use Rattle.asm_token.specs.Tokens.{Token}
use Rattle.rtl_tree.specs.Names.{AreNames as AreCNames}
use Rattle.rtl_tree.specs.declared.c_names.Names.{Names}
use Rattle.md_rows.specs.declared.description.Register.{Register}
use Rattle.md_rows.specs.declared.description.RawDescription.{RawDescription}
use Rattle.md_rows.specs.declared.row.Row.{Row}
use Rattle.md_rows.specs.declared.row.Hole.{Hole}
use Rattle.md_rows.specs.declared.row.Piece.{Piece}
use Rattle.md_rows.specs.declared.instance.Instance.{Instance}
use Rattle.md_rows.specs.Instances.{general_set}
use Rattle.md_overlap.specs.Overlap.{Overlap, FitsPiece, Meet}
use Rattle.md_overlap.specs.Premises.{AreNames}
use Rattle.asm_row.specs.Line.{IsLineOf, HasNumber}
use Rattle.asm_row.specs.Readable.{IsReadable}
use Rattle.asm_row.specs.Reading.{Value, ReadsText, AreValues}
use Rattle.asm_row.proofs.HoleValues.{no_item, same_item}
use Rattle.asm_row.proofs.Texts.{text_once, as_many, FitEach, fit_each, text_reads, values_once}

-- rows whose texts have the same tokens overlap

module _ (w : ℕ) (rs : List Register) (names : AreNames rs) (hs ks : List Hole) where
  meet_at : (ps qs : List Piece) (ts : List Token) → FitEach w rs names hs ps ts → FitEach w rs names ks qs ts → (i : ℕ) (p q : Piece)
      → slice_get ps i ≡ Some p → slice_get qs i ≡ Some q → Meet (FitsPiece rs hs p) (FitsPiece rs ks q)
  meet_at [] qs [] f g i p q e k = absurd (no_item p e)
  meet_at [] qs (t ∷ ts) f g i p q e k = absurd f
  meet_at (x ∷ ps) qs [] f g i p q e k = absurd f
  meet_at (x ∷ ps) [] (t ∷ ts) f g i p q e k = absurd g
  meet_at (x ∷ ps) (y ∷ qs) (t ∷ ts) f g zero p q e k = record {
    token = t;
    left = subst (λ (z : Piece). FitsPiece rs hs z t) (same_item x p e) f.0;
    right = subst (λ (z : Piece). FitsPiece rs ks z t) (same_item y q k) g.0;
  }
  meet_at (x ∷ ps) (y ∷ qs) (t ∷ ts) f g (suc i) p q e k = meet_at ps qs ts f.1 g.1 i p q e k

module _ (d : RawDescription) (readable : IsReadable d) where
  pub record RowReads (i : ℕ) (row : Row) (tokens : List Token) : Type 0 where
    pub has : slice_get d.rows i ≡ Some row
    pub values : List Value
    pub reads : ReadsText d.word d.registers row.text row.holes tokens values

  overlaps : (i j : ℕ) (r s : Row) (tokens : List Token) → RowReads i r tokens → RowReads j s tokens → Overlap d r s
  overlaps i j r s tokens a b =
      let f = fit_each d.word d.registers readable.names r.holes 0 r.text r.holes tokens a.values (readable.rows i r a.has).in_order refl a.reads in
      let g = fit_each d.word d.registers readable.names s.holes 0 s.text s.holes tokens b.values (readable.rows j s b.has).in_order refl b.reads in
      record {
        same_length = as_many d.word d.registers readable.names r.text r.holes tokens a.values a.reads
            ∙ sym (as_many d.word d.registers readable.names s.text s.holes tokens b.values b.reads);
        each = λ k p q e h. meet_at d.word d.registers readable.names r.holes s.holes r.text s.text tokens f g k p q e h;
      }

  -- tokens are read by one row
  pub same_place : (i j : ℕ) (r s : Row) (tokens : List Token) → RowReads i r tokens → RowReads j s tokens → i ≡ j
  same_place i j r s tokens a b = readable.apart i j r s a.has b.has (overlaps i j r s tokens a b)

  same_row : (i j : ℕ) (r s : Row) → i ≡ j → slice_get d.rows i ≡ Some r → slice_get d.rows j ≡ Some s → r ≡ s
  same_row i j r s e f g = same_item r s (sym f ∙ ap (slice_get d.rows) e ∙ g)

  module _ (n : Names) (objects : AreCNames n.objects) (functions : AreCNames n.functions) where
    pub record LineReads (i : Instance) (tokens : List Token) : Type 0 where
      pub row : Row
      pub at : RowReads i.row row tokens
      pub are : AreValues n i.binding at.values

    pub line_reads : (i : Instance) (tokens : List Token) → All HasNumber i.binding → IsLineOf d n i tokens → LineReads i tokens
    line_reads i tokens numbers l =
        let t = text_reads d n objects functions (general_set d.registers) l.row.holes i.binding 0 l.row.text l.row.holes i.binding tokens
        (readable.rows i.row l.row l.is_instance.has_row).in_order refl refl l.is_instance.fit numbers l.has in
        record { row = l.row; at = record { has = l.is_instance.has_row; values = t.values; reads = t.reads }; are = t.are }

    same_values : (i j : ℕ) (r s : Row) (tokens : List Token) (a : RowReads i r tokens) (b : RowReads j s tokens) → r ≡ s → a.values ≡ b.values
    same_values i j r s tokens a b e =
        text_once d.word d.registers readable.names s.text s.holes tokens a.values b.values
        (subst (λ (x : Row). ReadsText d.word d.registers x.text x.holes tokens a.values) e a.reads) b.reads

    same_instance : (i j : Instance) → i.row ≡ j.row → i.binding ≡ j.binding → i ≡ j
    same_instance i j e f = λ x. record { row = e x; binding = f x }

    pub one_instance : (i j : Instance) (tokens : List Token) → LineReads i tokens → LineReads j tokens → i ≡ j
    one_instance i j tokens a b =
        let rows = same_place i.row j.row a.row b.row tokens a.at b.at in
        let row = same_row i.row j.row a.row b.row rows a.at.has b.at.has in
        let values = same_values i.row j.row a.row b.row tokens a.at b.at row in
        same_instance i j rows
        (values_once d n objects functions 0 [] [] b.at.values i.binding j.binding (subst (AreValues n i.binding) values a.are) b.are)
