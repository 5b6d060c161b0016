-- A line is read along the pieces of a row's text.
use Rattle.std.proofs.Common.{◌≡◌, ℕ, List, [], ◌∷◌, ◌++◌, Option, Some, None, refl, sym, ap, subst, ◌∙◌, append_assoc}
use Rattle.asm_token.specs.Tokens.{Token}
use Rattle.md_rows.specs.declared.description.Register.{Register}
use Rattle.md_rows.specs.declared.row.Hole.{Hole}
use Rattle.md_rows.specs.declared.row.Piece.{Piece}
use Rattle.md_rows.specs.declared.row.Piece.TheVariants.{Name, Num, Byte, Hole as HolePiece}
use Rattle.asm_row.specs.Walk.{IsLine}
use Rattle.asm_row.specs.Walk.{IsToken}
use Rattle.asm_row.specs.Reading.{Value, Reads, ReadsText}
use Rattle.asm_row.specs.Found.{AreRead, IsFixed, IsHolePiece}

module _ (w : ℕ) (rs : List Register) where
  abbrev Is : List Piece → List Hole → List Token → List Value → Option (List Value) → Type 0
  Is ps hs ts before o = AreRead w rs ps hs ts before o

  -- the end

  append_nothing : (xs : List Value) → xs ++ [] ≡ xs
  append_nothing [] = refl
  append_nothing (x ∷ xs) = ap (λ (ys : List Value). x ∷ ys) (append_nothing xs)

  pub at_end : (hs : List Hole) (ts : List Token) (before : List Value) → hs ≡ [] → ts ≡ [] → Is [] hs ts before (Some before)
  at_end hs ts before e f = ([], subst (λ (x : List Hole). ReadsText w rs [] x ts []) (sym e) (subst (λ (x : List Token). ReadsText w rs [] [] x []) (sym f) tt), sym (append_nothing before))

  ended : (hs : List Hole) (ts : List Token) (vs : List Value) → ReadsText w rs [] hs ts vs → (hs ≡ []) × (ts ≡ [])
  ended [] [] [] r = (refl, refl)
  ended _ _ _ r = absurd r

  pub not_end : (hs : List Hole) (ts : List Token) (before : List Value) → ((hs ≡ []) × (ts ≡ []) → ⊥) → Is [] hs ts before None
  not_end hs ts before never vs r = never (ended hs ts vs r)

  -- a token is wanted

  needs_token : (p : Piece) (ps : List Piece) (hs : List Hole) (vs : List Value) → ReadsText w rs (p ∷ ps) hs [] vs → ⊥
  needs_token (Name b) ps hs vs r = r
  needs_token (Num z) ps hs vs r = r
  needs_token (Byte c) ps hs vs r = r
  needs_token (HolePiece k) ps [] vs r = r
  needs_token (HolePiece k) ps (h ∷ hs) vs r = r

  pub no_token : (p : Piece) (ps : List Piece) (hs : List Hole) (ts : List Token) (before : List Value) → ts ≡ [] → Is (p ∷ ps) hs ts before None
  no_token p ps hs ts before e vs r = needs_token p ps hs vs (subst (λ (x : List Token). ReadsText w rs (p ∷ ps) hs x vs) e r)

  -- a token that is no hole's

  fixed_more : (p : Piece) (ps : List Piece) (hs : List Hole) (t : Token) (ts : List Token) (vs : List Value) → IsFixed p t → ReadsText w rs ps hs ts vs
      → ReadsText w rs (p ∷ ps) hs (t ∷ ts) vs
  fixed_more (Name b) ps hs t ts vs f r = (f, r)
  fixed_more (Num z) ps hs t ts vs f r = (f, r)
  fixed_more (Byte c) ps hs t ts vs f r = (f, r)
  fixed_more (HolePiece k) ps hs t ts vs f r = absurd f

  fixed_less : (p : Piece) (ps : List Piece) (hs : List Hole) (t : Token) (ts : List Token) (vs : List Value) → (IsHolePiece p → ⊥)
      → ReadsText w rs (p ∷ ps) hs (t ∷ ts) vs → IsFixed p t × ReadsText w rs ps hs ts vs
  fixed_less (Name b) ps hs t ts vs n r = r
  fixed_less (Num z) ps hs t ts vs n r = r
  fixed_less (Byte c) ps hs t ts vs n r = r
  fixed_less (HolePiece k) ps hs t ts vs n r = absurd (n tt)

  not_hole : (p : Piece) (t : Token) → IsFixed p t → IsHolePiece p → ⊥
  not_hole (Name b) t f h = h
  not_hole (Num z) t f h = h
  not_hole (Byte c) t f h = h
  not_hole (HolePiece k) t f h = f

  fixed_by : (p : Piece) (ps : List Piece) (hs : List Hole) (t : Token) (us ts : List Token) (before : List Value) (o : Option (List Value)) → ts ≡ t ∷ us
      → IsFixed p t → Is ps hs us before o → Is (p ∷ ps) hs ts before o
  fixed_by p ps hs t us ts before (Some all) e f r =
      (r.0, subst (λ (x : List Token). ReadsText w rs (p ∷ ps) hs x r.0) (sym e) (fixed_more p ps hs t us r.0 f r.1), r.2)
  fixed_by p ps hs t us ts before None e f r = λ vs k.
      r vs (fixed_less p ps hs t us vs (not_hole p t f) (subst (λ (x : List Token). ReadsText w rs (p ∷ ps) hs x vs) e k)).1

  pub fixed : (text rest : List ℕ) (p : Piece) (ps : List Piece) (hs : List Hole) (t : Token) (before : List Value) (o : Option (List Value))
      → IsToken text t rest → IsFixed p t → ((us : List Token) → IsLine rest us → Is ps hs us before o)
      → (ts : List Token) → IsLine text ts → Is (p ∷ ps) hs ts before o
  fixed text rest p ps hs t before o n f r ts h =
      let k = n.back ts h in fixed_by p ps hs t k.others ts before o k.are f (r k.others k.line)

  pub not_fixed : (text rest : List ℕ) (p : Piece) (ps : List Piece) (hs : List Hole) (t : Token) (before : List Value) → IsToken text t rest
      → (IsHolePiece p → ⊥) → (IsFixed p t → ⊥) → (ts : List Token) → IsLine text ts → Is (p ∷ ps) hs ts before None
  not_fixed text rest p ps hs t before n hole never ts h vs r =
      let k = n.back ts h in
      never (fixed_less p ps hs t k.others vs hole (subst (λ (x : List Token). ReadsText w rs (p ∷ ps) hs x vs) k.are r)).0

  -- a hole's token

  hole_less : (k : ℕ) (ps : List Piece) (h : Hole) (hs : List Hole) (t : Token) (ts : List Token) (vs : List Value) → ReadsText w rs (HolePiece k ∷ ps) (h ∷ hs) (t ∷ ts) vs
      → (v : Value) × (us : List Value) × (vs ≡ v ∷ us) × Reads w rs h t v × ReadsText w rs ps hs ts us
  hole_less k ps h hs t ts [] r = absurd r
  hole_less k ps h hs t ts (v ∷ vs) r = (v, vs, refl, r.0, r.1)

  hole_by : (k : ℕ) (ps : List Piece) (h : Hole) (hs : List Hole) (t : Token) (us ts : List Token) (v : Value) (before : List Value) (o : Option (List Value))
      → ts ≡ t ∷ us → Reads w rs h t v → Is ps hs us (before ++ v ∷ []) o → Is (HolePiece k ∷ ps) (h ∷ hs) ts before o
  hole_by k ps h hs t us ts v before (Some all) e f r =
      (v ∷ r.0, subst (λ (x : List Token). ReadsText w rs (HolePiece k ∷ ps) (h ∷ hs) x (v ∷ r.0)) (sym e) (f, r.1), r.2 ∙ append_assoc before (v ∷ []) r.0)
  hole_by k ps h hs t us ts v before None e f r = λ vs q.
      let m = hole_less k ps h hs t us vs (subst (λ (x : List Token). ReadsText w rs (HolePiece k ∷ ps) (h ∷ hs) x vs) e q) in r m.1 m.4

  pub hole : (text rest : List ℕ) (k : ℕ) (ps : List Piece) (h : Hole) (hs : List Hole) (t : Token) (v : Value) (before : List Value) (o : Option (List Value))
      → IsToken text t rest → Reads w rs h t v → ((us : List Token) → IsLine rest us → Is ps hs us (before ++ v ∷ []) o)
      → (ts : List Token) → IsLine text ts → Is (HolePiece k ∷ ps) (h ∷ hs) ts before o
  hole text rest k ps h hs t v before o n f r ts l =
      let q = n.back ts l in hole_by k ps h hs t q.others ts v before o q.are f (r q.others q.line)

  pub not_read : (text rest : List ℕ) (k : ℕ) (ps : List Piece) (h : Hole) (hs : List Hole) (t : Token) (before : List Value) → IsToken text t rest
      → ((v : Value) → Reads w rs h t v → ⊥) → (ts : List Token) → IsLine text ts → Is (HolePiece k ∷ ps) (h ∷ hs) ts before None
  not_read text rest k ps h hs t before n never ts l vs r =
      let q = n.back ts l in
      let m = hole_less k ps h hs t q.others vs (subst (λ (x : List Token). ReadsText w rs (HolePiece k ∷ ps) (h ∷ hs) x vs) q.are r) in
      never m.0 m.3

  pub no_hole : (k : ℕ) (ps : List Piece) (ts : List Token) (before : List Value) → Is (HolePiece k ∷ ps) [] ts before None
  no_hole k ps ts before vs r = r
