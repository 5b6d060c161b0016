-- What the front of a text tells of its pieces.
use Rattle.std.proofs.Common.{◌≡◌, ℕ, ◌<◌, Bool, true, false, eqb, List, [], ◌∷◌, ◌++◌, length, refl, sym, ap, subst, ◌∙◌, arith, length-append, eq-eqb}
use Rattle.asm_token.specs.Tokens.{Token, IsToken, spelling, Longest, BeginsNoToken}
use Rattle.asm_token.proofs.Lengths.{token_nonempty}
use Rattle.asm_token.proofs.Front.{no_token}
use Rattle.asm_token.proofs.Steps.{same_longest}
use Rattle.md_text.specs.Lines.{lacks}
use Rattle.md_text.specs.Pieces.{Slot, Piece, Literal, Hole, slot_text, is_colon, IsSlot, SpellsPieces, at_end, after_space, literal, hole}
use Rattle.md_text.proofs.Bytes.{lacks_both, token_lacks}
use Rattle.md_text.proofs.Splits.{same_front}
use Rattle.md_text.proofs.SlotTexts.{slot_lacks_greater, slot_lacks_bar, slots_once}

no_token_at_space : (bs : List ℕ) → BeginsNoToken (32 ∷ bs)
no_token_at_space bs = no_token (32 ∷ bs) refl

no_token_at_less : (bs : List ℕ) → BeginsNoToken (60 ∷ bs)
no_token_at_less bs = no_token (60 ∷ bs) refl

some_bytes : (t : Token) (bs : List ℕ) → IsToken t → spelling t ++ bs ≡ [] → ⊥
some_bytes t bs h e =
    let some : 0 < length (spelling t) = token_nonempty t h in
    absurd (omega (arith, length-append (spelling t) bs, ap length e))

pub head_of : (b c : ℕ) (bs cs : List ℕ) → b ∷ bs ≡ c ∷ cs → b ≡ c
head_of b c bs cs e = cc

pub tail_of : (b c : ℕ) (bs cs : List ℕ) → b ∷ bs ≡ c ∷ cs → bs ≡ cs
tail_of b c bs cs e = cc

empty_is_not : (c : ℕ) (cs : List ℕ) → [] ≡ c ∷ cs → ⊥
empty_is_not c cs e = let no : [] ≡ c ∷ cs → ⊥ = λ q. cc in no e

clash : (r : Bool) → r ≡ true → r ≡ false → ⊥
clash r p q = let no : true ≡ false → ⊥ = λ e. cc in no (sym p ∙ q)

heads_apart : (b c : ℕ) (bs cs : List ℕ) → eqb b c ≡ false → b ∷ bs ≡ c ∷ cs → ⊥
heads_apart b c bs cs f e = clash (eqb b c) (eq-eqb b c (head_of b c bs cs e)) f

-- the end

pub nothing_left : (bs : List ℕ) (ps : List Piece) → SpellsPieces bs ps → bs ≡ [] → ps ≡ []
nothing_left _ _ at_end e = refl
nothing_left _ _ (after_space bs ps h) e = absurd (empty_is_not 32 bs (sym e))
nothing_left _ _ (literal t bs ps l h) e = absurd (some_bytes t bs l.token e)
nothing_left _ _ (hole k bs ps q h) e = absurd (empty_is_not 60 (slot_text k ++ 62 ∷ bs) (sym e))

-- a space

pub past_space : (bs cs : List ℕ) (ps : List Piece) → SpellsPieces cs ps → cs ≡ 32 ∷ bs → SpellsPieces bs ps
past_space bs _ _ at_end e = absurd (empty_is_not 32 bs e)
past_space bs _ _ (after_space cs ps h) e =
    let P : List ℕ → Type 0 = λ ds. SpellsPieces ds ps in
    subst P (tail_of 32 32 cs bs e) h
past_space bs _ _ (literal t cs ps l h) e = absurd (no_token_at_space bs t cs l.token (sym e))
past_space bs _ _ (hole k cs ps q h) e = absurd (heads_apart 60 32 (slot_text k ++ 62 ∷ cs) bs refl e)

-- a token

-- the pieces are the token and those of what is left
pub record NextLiteral (t : Token) (rest : List ℕ) (ps : List Piece) : Type 0 where
  pub others : List Piece
  pub is : ps ≡ Literal t ∷ others
  pub no_colon : is_colon t ≡ false
  pub spelled : SpellsPieces rest others

literal_from : (t u : Token) (r s : List ℕ) (ps : List Piece) → u ≡ t → s ≡ r → is_colon u ≡ false → SpellsPieces s ps → NextLiteral t r (Literal u ∷ ps)
literal_from t u r s ps e f n h =
    let P : List ℕ → Type 0 = λ ds. SpellsPieces ds ps in
    record { others = ps; is = ap (λ v. Literal v ∷ ps) e; no_colon = sym (ap is_colon e) ∙ n; spelled = subst P f h }

pub next_literal : (t : Token) (rest cs : List ℕ) (ps : List Piece) → IsToken t → Longest t rest → SpellsPieces cs ps → cs ≡ spelling t ++ rest → NextLiteral t rest ps
next_literal t rest _ _ k l at_end e = absurd (some_bytes t rest k (sym e))
next_literal t rest _ _ k l (after_space cs ps h) e = absurd (no_token_at_space cs t rest k e)
next_literal t rest _ _ k l (literal u cs ps i h) e =
    let both = same_longest u t cs rest i.token k i.longest l e in
    literal_from t u rest cs ps both.0 both.1 i.no_colon h
next_literal t rest _ _ k l (hole s cs ps q h) e = absurd (no_token_at_less (slot_text s ++ 62 ∷ cs) t rest k e)

-- a hole

-- the pieces are a hole, whose text stands in these bytes before `>`, and those of what is left
pub record NextHole (bs : List ℕ) (ps : List Piece) : Type 0 where
  pub slot : Slot
  pub rest : List ℕ
  pub others : List Piece
  pub text : bs ≡ slot_text slot ++ 62 ∷ rest
  pub is_slot : IsSlot slot
  pub is : ps ≡ Hole slot ∷ others
  pub spelled : SpellsPieces rest others

pub next_hole : (bs cs : List ℕ) (ps : List Piece) → SpellsPieces cs ps → cs ≡ 60 ∷ bs → NextHole bs ps
next_hole bs _ _ at_end e = absurd (empty_is_not 60 bs e)
next_hole bs _ _ (after_space cs ps h) e = absurd (heads_apart 32 60 cs bs refl e)
next_hole bs _ _ (literal t cs ps l h) e = absurd (no_token_at_less bs t cs l.token (sym e))
next_hole bs _ _ (hole s cs ps q h) e = record { slot = s; rest = cs; others = ps; text = sym (tail_of 60 60 (slot_text s ++ 62 ∷ cs) bs e); is_slot = q; is = refl; spelled = h }

-- where a text has a hole, its pieces are this hole and those of what is left
pub record NextSlot (s : Slot) (rest : List ℕ) (ps : List Piece) : Type 0 where
  pub others : List Piece
  pub is : ps ≡ Hole s ∷ others
  pub spelled : SpellsPieces rest others

pub next_slot : (s : Slot) (rest cs : List ℕ) (ps : List Piece) → IsSlot s → SpellsPieces cs ps → cs ≡ 60 ∷ (slot_text s ++ 62 ∷ rest) → NextSlot s rest ps
next_slot s rest cs ps q h e =
    let n = next_hole (slot_text s ++ 62 ∷ rest) cs ps h e in
    let both = same_front 62 (slot_text n.slot) (slot_text s) n.rest rest (slot_lacks_greater n.slot n.is_slot) (slot_lacks_greater s q) (sym n.text) in
    let P : List ℕ → Type 0 = λ ds. SpellsPieces ds n.others in
    record { others = n.others; is = n.is ∙ ap (λ k. Hole k ∷ n.others) (slots_once n.slot s n.is_slot q both.0); spelled = subst P both.1 n.spelled }

-- nothing

-- a text has at most one list of pieces
pub pieces_once : (bs : List ℕ) (ps qs : List Piece) → SpellsPieces bs ps → SpellsPieces bs qs → ps ≡ qs
pieces_once _ _ qs at_end k = sym (nothing_left [] qs k refl)
pieces_once _ _ qs (after_space bs ps h) k = pieces_once bs ps qs h (past_space bs (32 ∷ bs) qs k refl)
pieces_once _ _ qs (literal t bs ps l h) k =
    let next = next_literal t bs (spelling t ++ bs) qs l.token l.longest k refl in
    ap (λ vs. Literal t ∷ vs) (pieces_once bs ps next.others h next.spelled) ∙ sym next.is
pieces_once _ _ qs (hole s bs ps q h) k =
    let next = next_slot s bs (60 ∷ (slot_text s ++ 62 ∷ bs)) qs q k refl in
    ap (λ vs. Hole s ∷ vs) (pieces_once bs ps next.others h next.spelled) ∙ sym next.is

-- no text has a bar
pub pieces_lack_bar : (bs : List ℕ) (ps : List Piece) → SpellsPieces bs ps → lacks 124 bs ≡ true
pieces_lack_bar _ _ at_end = refl
pieces_lack_bar _ _ (after_space bs ps h) = pieces_lack_bar bs ps h
pieces_lack_bar _ _ (literal t bs ps l h) = lacks_both 124 (spelling t) bs (token_lacks 124 t refl l.token) (pieces_lack_bar bs ps h)
pieces_lack_bar _ _ (hole s bs ps q h) = lacks_both 124 (slot_text s) (62 ∷ bs) (slot_lacks_bar s q) (pieces_lack_bar bs ps h)
