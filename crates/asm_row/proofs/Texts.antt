-- The tokens of a line, read along the pieces of a row's text.
use Rattle.std.proofs.Common.{◌≡◌, ℕ, zero, suc, List, [], ◌∷◌, length, map, drop, Option, Some, slice_get, All, refl, sym, ap, subst, ◌∙◌}
use Rattle.std.proofs.lemmas.List.Elements.{All-head, All-tail}
use Rattle.asm_token.specs.Tokens.{Token, Name as NameToken, Number as NumberToken, Mark as MarkToken}
use Rattle.rtl_tree.specs.Names.{AreNames as AreCNames}
use Rattle.rtl_tree.specs.declared.c_names.Names.{Names}
use Rattle.md_rows.specs.declared.description.Register.{Register}
use Rattle.md_rows.specs.declared.description.RawDescription.{RawDescription}
use Rattle.md_rows.specs.declared.row.Hole.{Hole}
use Rattle.md_rows.specs.declared.row.Piece.{Piece}
use Rattle.md_rows.specs.declared.row.Piece.TheVariants.{Name, Num, Byte, Hole as HolePiece}
use Rattle.md_rows.specs.declared.instance.Bound.{Bound}
use Rattle.md_rows.specs.Instances.{piece_token, AllFit, hole_token}
use Rattle.md_overlap.specs.Overlap.{FitsPiece, FitsSome}
use Rattle.md_overlap.specs.Premises.{AreNames}
use Rattle.asm_row.specs.Line.{naming_of, HasNumber}
use Rattle.asm_row.specs.Readable.{StandInOrder}
use Rattle.asm_row.specs.Reading.{Value, Reads, ReadsText, AreValues}
use Rattle.asm_row.proofs.HoleValues.{same_item, reads_once, reads_fits, ReadsAs, hole_reads, bound_once}

-- what is left of a list

no_cons : {A : Type 0} (x : A) (xs : List A) → [] ≡ x ∷ xs → ⊥
no_cons x xs e = cc

no_nil : {A : Type 0} (x : A) (xs : List A) → x ∷ xs ≡ [] → ⊥
no_nil x xs e = cc

same_head : {A : Type 0} (x y : A) (xs ys : List A) → x ∷ xs ≡ y ∷ ys → x ≡ y
same_head x y xs ys e = cc

same_rest : {A : Type 0} (x y : A) (xs ys : List A) → x ∷ xs ≡ y ∷ ys → xs ≡ ys
same_rest x y xs ys e = cc

pub first_left : {A : Type 0} (k : ℕ) (all : List A) (x : A) (xs : List A) → drop k all ≡ x ∷ xs → slice_get all k ≡ Some x
first_left zero [] x xs e = absurd (no_cons x xs e)
first_left zero (y ∷ ys) x xs e = ap Some (same_head y x ys xs e)
first_left (suc k) [] x xs e = absurd (no_cons x xs e)
first_left (suc k) (y ∷ ys) x xs e = first_left k ys x xs e

pub rest_left : {A : Type 0} (k : ℕ) (all : List A) (x : A) (xs : List A) → drop k all ≡ x ∷ xs → drop (suc k) all ≡ xs
rest_left zero [] x xs e = absurd (no_cons x xs e)
rest_left zero (y ∷ ys) x xs e = same_rest y x ys xs e
rest_left (suc k) [] x xs e = absurd (no_cons x xs e)
rest_left (suc k) (y ∷ ys) x xs e = rest_left k ys x xs e

-- a line says one list of values

module _ (w : ℕ) (rs : List Register) (names : AreNames rs) where
  values_by : (h : Hole) (t : Token) (v : Value) (vs us : List Value) (ps : List Piece) (hs : List Hole) (ts : List Token) → Reads w rs h t v
      → ((xs : List Value) → ReadsText w rs ps hs ts xs → vs ≡ xs) → (j : ℕ) → ReadsText w rs (HolePiece j ∷ ps) (h ∷ hs) (t ∷ ts) us → v ∷ vs ≡ us
  values_by h t v vs [] ps hs ts a rest j b = absurd b
  values_by h t v vs (u ∷ us) ps hs ts a rest j b =
      ap (λ (x : Value). x ∷ vs) (reads_once w rs names h t v u a b.0) ∙ ap (λ (xs : List Value). u ∷ xs) (rest us b.1)

  nothing_by : (us : List Value) → ReadsText w rs [] [] [] us → [] ≡ us
  nothing_by [] b = refl
  nothing_by (u ∷ us) b = absurd b

  pub text_once : (ps : List Piece) (hs : List Hole) (ts : List Token) (vs us : List Value) → ReadsText w rs ps hs ts vs → ReadsText w rs ps hs ts us → vs ≡ us
  text_once [] [] [] [] us a b = nothing_by us b
  text_once (Name bytes ∷ ps) hs (t ∷ ts) vs us a b = text_once ps hs ts vs us a.1 b.1
  text_once (Num z ∷ ps) hs (t ∷ ts) vs us a b = text_once ps hs ts vs us a.1 b.1
  text_once (Byte c ∷ ps) hs (t ∷ ts) vs us a b = text_once ps hs ts vs us a.1 b.1
  text_once (HolePiece j ∷ ps) (h ∷ hs) (t ∷ ts) (v ∷ vs) us a b = values_by h t v vs us ps hs ts a.0 (λ xs c. text_once ps hs ts vs xs a.1 c) j b
  text_once _ _ _ _ us a b = absurd a

  -- there are as many tokens as pieces, and each fits its piece

  pub as_many : (ps : List Piece) (hs : List Hole) (ts : List Token) (vs : List Value) → ReadsText w rs ps hs ts vs → length ps ≡ length ts
  as_many [] [] [] [] a = refl
  as_many (Name bytes ∷ ps) hs (t ∷ ts) vs a = ap suc (as_many ps hs ts vs a.1)
  as_many (Num z ∷ ps) hs (t ∷ ts) vs a = ap suc (as_many ps hs ts vs a.1)
  as_many (Byte c ∷ ps) hs (t ∷ ts) vs a = ap suc (as_many ps hs ts vs a.1)
  as_many (HolePiece j ∷ ps) (h ∷ hs) (t ∷ ts) (v ∷ vs) a = ap suc (as_many ps hs ts vs a.1)
  as_many _ _ _ _ a = absurd a

  module _ (all : List Hole) where
    -- each token fits the piece at its place
    abbrev pub FitEach : List Piece → List Token → Type 0
    FitEach [] [] = Unit {0}
    FitEach (p ∷ ps) (t ∷ ts) = FitsPiece rs all p t × FitEach ps ts
    FitEach _ _ = ⊥

    some_fits : (k j : ℕ) (h : Hole) (hs : List Hole) (t : Token) (v : Value) → j ≡ k → drop k all ≡ h ∷ hs → Reads w rs h t v → FitsPiece rs all (HolePiece j) t
    some_fits k j h hs t v e d a =
        subst (λ (o : Option Hole). FitsSome rs o t) (sym (ap (slice_get all) e ∙ first_left k all h hs d)) (reads_fits w rs names h t v a)

    pub fit_each : (k : ℕ) (ps : List Piece) (hs : List Hole) (ts : List Token) (vs : List Value) → StandInOrder k ps hs → drop k all ≡ hs
        → ReadsText w rs ps hs ts vs → FitEach ps ts
    fit_each k [] [] [] [] s d a = tt
    fit_each k (Name bytes ∷ ps) hs (t ∷ ts) vs s d a = (a.0, fit_each k ps hs ts vs s d a.1)
    fit_each k (Num z ∷ ps) hs (t ∷ ts) vs s d a = (a.0, fit_each k ps hs ts vs s d a.1)
    fit_each k (Byte c ∷ ps) hs (t ∷ ts) vs s d a = (a.0, fit_each k ps hs ts vs s d a.1)
    fit_each k (HolePiece j ∷ ps) (h ∷ hs) (t ∷ ts) (v ∷ vs) s d a =
        (some_fits k j h hs t v s.0 d a.0, fit_each (suc k) ps hs ts vs s.1 (rest_left k all h hs d) a.1)
    fit_each k _ _ _ _ s d a = absurd a

-- from an instance to the values

module _ (d : RawDescription) (n : Names) (objects : AreCNames n.objects) (functions : AreCNames n.functions) (g : ℕ) (all : List Hole) (b : List Bound) where
  abbrev tokens_are : List Piece → List Token → Type 0
  tokens_are ps ts = map (piece_token d.word (naming_of d n) all b) ps ≡ map (λ t. Some t) ts

  pub record TextReads (ps : List Piece) (hs : List Hole) (bs : List Bound) (ts : List Token) : Type 0 where
    pub values : List Value
    pub reads : ReadsText d.word d.registers ps hs ts values
    pub are : AreValues n bs values

  hole_text : (j k : ℕ) (ps : List Piece) (h : Hole) (hs : List Hole) (c : Bound) (bs : List Bound) (t : Token) (ts : List Token) → j ≡ k
      → drop k all ≡ h ∷ hs → drop k b ≡ c ∷ bs → ReadsAs d n objects functions h c t → TextReads ps hs bs ts → TextReads (HolePiece j ∷ ps) (h ∷ hs) (c ∷ bs) (t ∷ ts)
  hole_text j k ps h hs c bs t ts e dh db r rest =
      record { values = r.value ∷ rest.values; reads = (r.reads, rest.reads); are = (r.is, rest.are) }

  read_at : (j k : ℕ) (h : Hole) (hs : List Hole) (c : Bound) (bs : List Bound) (t : Token) → j ≡ k → drop k all ≡ h ∷ hs → drop k b ≡ c ∷ bs
      → hole_token d.word (naming_of d n) (slice_get all j) (slice_get b j) ≡ Some t → hole_token d.word (naming_of d n) (Some h) (Some c) ≡ Some t
  read_at j k h hs c bs t e dh db q =
      let first = ap (slice_get all) e ∙ first_left k all h hs dh in
      let second = ap (slice_get b) e ∙ first_left k b c bs db in
      ap (λ (o : Option Hole). hole_token d.word (naming_of d n) o (Some c)) (sym first)
      ∙ ap (λ (o : Option Bound). hole_token d.word (naming_of d n) (slice_get all j) o) (sym second) ∙ q

  pub text_reads : (k : ℕ) (ps : List Piece) (hs : List Hole) (bs : List Bound) (ts : List Token) → StandInOrder k ps hs → drop k all ≡ hs → drop k b ≡ bs
      → AllFit d.word g hs bs → All HasNumber bs → tokens_are ps ts → TextReads ps hs bs ts
  text_reads k [] [] [] [] s dh db f a e = record { values = []; reads = tt; are = tt }
  text_reads k [] [] [] (t ∷ ts) s dh db f a e = absurd (no_cons (Some t) (map (λ u. Some u) ts) e)
  text_reads k [] [] (c ∷ bs) ts s dh db f a e = absurd f
  text_reads k [] (h ∷ hs) bs ts s dh db f a e = absurd s
  text_reads k (Name bytes ∷ ps) hs bs [] s dh db f a e =
      absurd (no_nil (Some (NameToken bytes)) (map (piece_token d.word (naming_of d n) all b) ps) e)
  text_reads k (Name bytes ∷ ps) hs bs (t ∷ ts) s dh db f a e =
      let r = text_reads k ps hs bs ts s dh db f a
      (same_rest (Some (NameToken bytes)) (Some t) (map (piece_token d.word (naming_of d n) all b) ps) (map (λ u. Some u) ts) e) in
      record {
        values = r.values;
        reads = (same_item (NameToken bytes) t (same_head (Some (NameToken bytes)) (Some t) (map (piece_token d.word (naming_of d n) all b) ps) (map (λ u. Some u) ts) e), r.reads);
        are = r.are;
      }
  text_reads k (Num z ∷ ps) hs bs [] s dh db f a e =
      absurd (no_nil (Some (NumberToken z)) (map (piece_token d.word (naming_of d n) all b) ps) e)
  text_reads k (Num z ∷ ps) hs bs (t ∷ ts) s dh db f a e =
      let r = text_reads k ps hs bs ts s dh db f a
      (same_rest (Some (NumberToken z)) (Some t) (map (piece_token d.word (naming_of d n) all b) ps) (map (λ u. Some u) ts) e) in
      record {
        values = r.values;
        reads = (same_item (NumberToken z) t (same_head (Some (NumberToken z)) (Some t) (map (piece_token d.word (naming_of d n) all b) ps) (map (λ u. Some u) ts) e), r.reads);
        are = r.are;
      }
  text_reads k (Byte c ∷ ps) hs bs [] s dh db f a e =
      absurd (no_nil (Some (MarkToken c)) (map (piece_token d.word (naming_of d n) all b) ps) e)
  text_reads k (Byte c ∷ ps) hs bs (t ∷ ts) s dh db f a e =
      let r = text_reads k ps hs bs ts s dh db f a
      (same_rest (Some (MarkToken c)) (Some t) (map (piece_token d.word (naming_of d n) all b) ps) (map (λ u. Some u) ts) e) in
      record {
        values = r.values;
        reads = (same_item (MarkToken c) t (same_head (Some (MarkToken c)) (Some t) (map (piece_token d.word (naming_of d n) all b) ps) (map (λ u. Some u) ts) e), r.reads);
        are = r.are;
      }
  text_reads k (HolePiece j ∷ ps) [] bs ts s dh db f a e = absurd s
  text_reads k (HolePiece j ∷ ps) (h ∷ hs) [] ts s dh db f a e = absurd f
  text_reads k (HolePiece j ∷ ps) (h ∷ hs) (c ∷ bs) [] s dh db f a e =
      absurd (no_nil (hole_token d.word (naming_of d n) (slice_get all j) (slice_get b j)) (map (piece_token d.word (naming_of d n) all b) ps) e)
  text_reads k (HolePiece j ∷ ps) (h ∷ hs) (c ∷ bs) (t ∷ ts) s dh db f a e =
      let it = hole_token d.word (naming_of d n) (slice_get all j) (slice_get b j) in
      let rest = map (piece_token d.word (naming_of d n) all b) ps in
      hole_text j k ps h hs c bs t ts s.0 dh db
      (hole_reads d n objects functions g h c t f.0 (All-head HasNumber c bs a)
      (read_at j k h hs c bs t s.0 dh db (same_head it (Some t) rest (map (λ u. Some u) ts) e)))
      (text_reads (suc k) ps hs bs ts s.1 (rest_left k all h hs dh) (rest_left k b c bs db) f.1 (All-tail HasNumber c bs a)
      (same_rest it (Some t) rest (map (λ u. Some u) ts) e))

  pub values_once : (vs : List Value) (bs cs : List Bound) → AreValues n bs vs → AreValues n cs vs → bs ≡ cs
  values_once [] [] [] h q = refl
  values_once [] [] (c ∷ cs) h q = absurd q
  values_once [] (x ∷ bs) cs h q = absurd h
  values_once (v ∷ vs) [] cs h q = absurd h
  values_once (v ∷ vs) (x ∷ bs) [] h q = absurd q
  values_once (v ∷ vs) (x ∷ bs) (y ∷ cs) h q =
      ap (λ (z : Bound). z ∷ bs) (bound_once d n objects functions v x y h.0 q.0) ∙ ap (λ (zs : List Bound). y ∷ zs) (values_once vs bs cs h.1 q.1)
