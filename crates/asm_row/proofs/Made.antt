-- The instance that is made of what a line says.
use Rattle.std.proofs.Common.{◌≡◌, ◌≢◌, ℕ, zero, suc, ◌^◌, ◌≤◌, IsTrue, List, [], ◌∷◌, map, drop, filter_map, Option, Some, option_map, is_some, slice_get, All, AllPairs, refl, sym, ap, subst, ◌∙◌}
use Rattle.std.specs.Prelude.{nat_lt}
use Rattle.std.specs.List.{cons_option}
use Rattle.std.proofs.lemmas.Bool.{and_from, lt-ltb}
use Rattle.asm_token.specs.Tokens.{Token, Name as NameToken, Number as NumberToken, Mark as MarkToken}
use Rattle.rtl_tree.specs.Names.{AreNames as AreCNames}
use Rattle.rtl_tree.specs.Moves.{Goal, ToCell, ToMemory, Move}
use Rattle.rtl_tree.specs.declared.cells.Cell.{Cell}
use Rattle.rtl_tree.specs.declared.cells.Cell.TheVariants.{Hard, Temp, Flag, Pc, Input, Output, Halt, Hole as RegisterHole}
use Rattle.rtl_tree.specs.declared.c_names.Names.{Names}
use Rattle.md_rows.specs.declared.description.RawDescription.{RawDescription}
use Rattle.md_rows.specs.declared.row.Row.{Row}
use Rattle.md_rows.specs.declared.row.Hole.{Hole}
use Rattle.md_rows.specs.declared.row.Hole.TheVariants.{Reg as RegHole, Num as NumHole, Sym as SymHole, Label as LabelHole}
use Rattle.md_rows.specs.declared.row.Piece.{Piece}
use Rattle.md_rows.specs.declared.row.Piece.TheVariants.{Name, Num, Byte, Hole as HolePiece}
use Rattle.md_rows.specs.declared.instance.Bound.{Bound}
use Rattle.md_rows.specs.declared.instance.Instance.{Instance}
use Rattle.md_rows.specs.Lines.{longest_line}
use Rattle.md_rows.specs.Fits.{fits, printed}
use Rattle.md_rows.specs.Instances.{register_by, filled_goal, filled_move, effects_with, assigned_register, piece_token, hole_token, symbol_token, AllFit, general_set}
use Rattle.asm_row.specs.Line.{naming_of, HasNumber, IsLineOf}
use Rattle.asm_row.specs.Readable.{StandInOrder, IsReadable}
use Rattle.asm_row.specs.Reading.{Value, Register_, Number, Object, Block, Function, Reads, ReadsText, AreValues, register_of, assigned_by}
use Rattle.asm_row.specs.Found.{NoRow, IsFound}
use Rattle.asm_row.proofs.HoleValues.{same_item, IsBoundOf, bound_of}
use Rattle.asm_row.proofs.Texts.{first_left, rest_left}
use Rattle.asm_row.proofs.Unique.{line_reads}

module _ (d : RawDescription) (n : Names) (objects : AreCNames n.objects) (functions : AreCNames n.functions) where
  abbrev Bound_of : Value → Bound → Type 0
  Bound_of = IsBoundOf d n objects functions

  -- a value fits its hole, and prints its token

  record Holds (g : ℕ) (h : Hole) (b : Bound) (t : Token) : Type 0 where
    fit : IsTrue (fits d.word g h b)
    token : hole_token d.word (naming_of d n) (Some h) (Some b) ≡ Some t

  some_of : {A : Type 0} (o : Option A) (x : A) → o ≡ Some x → IsTrue (is_some o)
  some_of o x e = ap is_some e

  holds : (g : ℕ) (h : Hole) (t : Token) (v : Value) (b : Bound) → Reads d.word d.registers h t v → Bound_of v b → Holds g h b t
  holds g (RegHole class) (NameToken name) (Register_ k) b a e =
      subst (λ (x : Bound). Holds g (RegHole class) x (NameToken name)) (sym e) (record { fit = a.0; token = ap (option_map NameToken) a.1 })
  holds g (NumHole low high inverted) (NumberToken z) (Number v) b a e =
      subst (λ (x : Bound). Holds g (NumHole low high inverted) x (NumberToken z)) (sym e) (record {
        fit = and_from (nat_lt v (2 ^ d.word)) (is_some (printed d.word low high inverted v)) (lt-ltb v (2 ^ d.word) a.0) (some_of (printed d.word low high inverted v) z a.1);
        token = ap (option_map NumberToken) a.1;
      })
  holds g SymHole (NameToken name) (Object object) b a e =
      subst (λ (x : Bound). Holds g SymHole x (NameToken name)) (sym e.1) (record {
        fit = refl;
        token = ap (option_map symbol_token) e.2 ∙ ap (λ (xs : List ℕ). Some (NameToken xs)) (sym a.1);
      })
  holds g LabelHole (NameToken name) (Block m) b a e =
      subst (λ (x : Bound). Holds g LabelHole x (NameToken name)) (sym e) (record { fit = refl; token = ap (λ (xs : List ℕ). Some (NameToken xs)) (sym a.1) })
  holds g LabelHole (NameToken name) (Function function) b a e =
      subst (λ (x : Bound). Holds g LabelHole x (NameToken name)) (sym e.1) (record {
        fit = refl;
        token = ap (option_map symbol_token) e.2 ∙ ap (λ (xs : List ℕ). Some (NameToken xs)) (sym a.1);
      })
  holds g _ _ _ b a e = absurd a

  module _ (g : ℕ) (all : List Hole) (b : List Bound) where
    abbrev tokens_are : List Piece → List Token → Type 0
    tokens_are ps ts = map (piece_token d.word (naming_of d n) all b) ps ≡ map (λ t. Some t) ts

    record Makes (ps : List Piece) (hs : List Hole) (bs : List Bound) (ts : List Token) : Type 0 where
      fit : AllFit d.word g hs bs
      tokens : tokens_are ps ts

    cons_same : {A : Type 0} (x y : A) (xs ys : List A) → x ≡ y → xs ≡ ys → x ∷ xs ≡ y ∷ ys
    cons_same x y xs ys e f = ap (λ (z : _). z ∷ xs) e ∙ ap (λ (zs : List _). y ∷ zs) f

    token_at : (j k : ℕ) (h : Hole) (hs : List Hole) (c : Bound) (bs : List Bound) (t : Token) → j ≡ k → drop k all ≡ h ∷ hs → drop k b ≡ c ∷ bs
        → hole_token d.word (naming_of d n) (Some h) (Some c) ≡ Some t → hole_token d.word (naming_of d n) (slice_get all j) (slice_get b j) ≡ Some t
    token_at j k h hs c bs t e dh db q =
        let first = ap (slice_get all) e ∙ first_left k all h hs dh in
        let second = ap (slice_get b) e ∙ first_left k b c bs db in
        ap (λ (o : Option Hole). hole_token d.word (naming_of d n) o (slice_get b j)) first
        ∙ ap (λ (o : Option Bound). hole_token d.word (naming_of d n) (Some h) o) second ∙ q

    makes : (k : ℕ) (ps : List Piece) (hs : List Hole) (bs : List Bound) (ts : List Token) (vs : List Value) → StandInOrder k ps hs → drop k all ≡ hs → drop k b ≡ bs
        → ReadsText d.word d.registers ps hs ts vs → AreValues n bs vs → Makes ps hs bs ts
    makes k [] [] [] [] [] s dh db r a = record { fit = tt; tokens = refl }
    makes k (Name bytes ∷ ps) hs bs (t ∷ ts) vs s dh db r a =
        let m = makes k ps hs bs ts vs s dh db r.1 a in
        record { fit = m.fit; tokens = cons_same (Some (NameToken bytes)) (Some t) (map (piece_token d.word (naming_of d n) all b) ps) (map (λ u. Some u) ts) (ap Some r.0) m.tokens }
    makes k (Num z ∷ ps) hs bs (t ∷ ts) vs s dh db r a =
        let m = makes k ps hs bs ts vs s dh db r.1 a in
        record { fit = m.fit; tokens = cons_same (Some (NumberToken z)) (Some t) (map (piece_token d.word (naming_of d n) all b) ps) (map (λ u. Some u) ts) (ap Some r.0) m.tokens }
    makes k (Byte c ∷ ps) hs bs (t ∷ ts) vs s dh db r a =
        let m = makes k ps hs bs ts vs s dh db r.1 a in
        record { fit = m.fit; tokens = cons_same (Some (MarkToken c)) (Some t) (map (piece_token d.word (naming_of d n) all b) ps) (map (λ u. Some u) ts) (ap Some r.0) m.tokens }
    makes k (HolePiece j ∷ ps) (h ∷ hs) (c ∷ bs) (t ∷ ts) (v ∷ vs) s dh db r a =
        let it = holds g h t v c r.0 (bound_of d n objects functions c v a.0) in
        let m = makes (suc k) ps hs bs ts vs s.1 (rest_left k all h hs dh) (rest_left k b c bs db) r.1 a.1 in
        record {
          fit = (it.fit, m.fit);
          tokens = cons_same (hole_token d.word (naming_of d n) (slice_get all j) (slice_get b j)) (Some t) (map (piece_token d.word (naming_of d n) all b) ps) (map (λ u. Some u) ts)
              (token_at j k h hs c bs t s.0 dh db it.token) m.tokens;
        }
    makes k (HolePiece j ∷ ps) (h ∷ hs) [] (t ∷ ts) (v ∷ vs) s dh db r a = absurd a
    makes k [] [] (c ∷ bs) [] [] s dh db r a = absurd a
    makes k _ _ _ _ _ s dh db r a = absurd r

  -- the registers that are assigned

  register_is : (h : ℕ) (v : Value) (c : Bound) → Bound_of v c → assigned_register (ToCell (register_by (RegisterHole h) (Some c))) ≡ register_of (Some v)
  register_is h (Register_ k) c e = ap (λ (x : Bound). assigned_register (ToCell (register_by (RegisterHole h) (Some x)))) e
  register_is h (Number v) c e = ap (λ (x : Bound). assigned_register (ToCell (register_by (RegisterHole h) (Some x)))) e
  register_is h (Object o) c e = ap (λ (x : Bound). assigned_register (ToCell (register_by (RegisterHole h) (Some x)))) e.1
  register_is h (Block m) c e = ap (λ (x : Bound). assigned_register (ToCell (register_by (RegisterHole h) (Some x)))) e
  register_is h (Function f) c e = ap (λ (x : Bound). assigned_register (ToCell (register_by (RegisterHole h) (Some x)))) e.1

  register_at : (h k : ℕ) (bs : List Bound) (vs : List Value) → AreValues n bs vs
      → assigned_register (ToCell (register_by (RegisterHole h) (slice_get bs k))) ≡ register_of (slice_get vs k)
  register_at h k [] [] a = refl
  register_at h k [] (v ∷ vs) a = absurd a
  register_at h k (c ∷ bs) [] a = absurd a
  register_at h zero (c ∷ bs) (v ∷ vs) a = register_is h v c (bound_of d n objects functions c v a.0)
  register_at h (suc k) (c ∷ bs) (v ∷ vs) a = register_at h k bs vs a.1

  goal_is : (bs : List Bound) (vs : List Value) (g : Goal) → AreValues n bs vs → assigned_register (filled_goal bs g) ≡ assigned_by vs g
  goal_is bs vs (ToCell (RegisterHole h)) a = register_at h h bs vs a
  goal_is bs vs (ToCell (Hard k)) a = refl
  goal_is bs vs (ToCell (Temp k)) a = refl
  goal_is bs vs (ToCell (Flag k)) a = refl
  goal_is bs vs (ToCell Pc) a = refl
  goal_is bs vs (ToCell Input) a = refl
  goal_is bs vs (ToCell Output) a = refl
  goal_is bs vs (ToCell Halt) a = refl
  goal_is bs vs (ToMemory w t) a = refl

  registers_are : (bs : List Bound) (vs : List Value) (ms : List Move) → AreValues n bs vs
      → filter_map (λ m. assigned_register m.to) (map (filled_move bs) ms) ≡ filter_map (λ m. assigned_by vs m.to) ms
  registers_are bs vs [] a = refl
  registers_are bs vs (m ∷ ms) a =
      ap (λ (o : Option Cell). cons_option o (filter_map (λ x. assigned_register x.to) (map (filled_move bs) ms))) (goal_is bs vs m.to a)
      ∙ ap (cons_option (assigned_by vs m.to)) (registers_are bs vs ms a)

  -- the instance of what was found

  pub made : (place : ℕ) (b : List Bound) (ts : List Token) (vs : List Value) → IsReadable d → IsFound d ts place vs → AreValues n b vs
      → IsLineOf d n (record { row = place; binding = b }) ts
  made place b ts vs readable f a =
      let m = makes (general_set d.registers) f.row.holes b 0 f.row.text f.row.holes b ts vs (readable.rows place f.row f.has).in_order refl refl f.reading.reads a in
      record {
        row = f.row;
        is_instance = record {
          has_row = f.has;
          short = f.reading.short;
          fit = m.fit;
          different = subst (AllPairs (λ x y. x ≢ y)) (sym (registers_are b vs f.row.effects a)) f.reading.different;
        };
        has = m.tokens;
      }

  -- where no row was found there is no instance

  pub none : (ts : List Token) (i : Instance) → IsReadable d → NoRow d ts → All HasNumber i.binding → IsLineOf d n i ts → ⊥
  none ts i readable never numbers l =
      let r = line_reads d readable n objects functions i ts numbers l in
      let same = same_item l.row r.row (sym l.is_instance.has_row ∙ r.at.has) in
      never i.row r.row r.at.values r.at.has (record {
        reads = r.at.reads;
        short = subst (λ (x : Row). longest_line d.registers x.holes x.text ≤ 640) same l.is_instance.short;
        different = subst (AllPairs (λ x y. x ≢ y)) (registers_are i.binding r.at.values r.row.effects r.are)
            (subst (λ (x : Row). AllPairs (λ a b. a ≢ b) (filter_map (λ m. assigned_register m.to) (effects_with x i.binding))) same l.is_instance.different);
      })
