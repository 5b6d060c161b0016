-- Reading the pieces of a text, one by one.
use Rattle.std.proofs.Common.{◌≡◌, ℕ, ◌+◌, ◌-◌, ◌<◌, suc, Bool, true, false, eqb, Some, None, List, [], ◌∷◌, ◌++◌, length, map, take, drop, slice_get, refl, sym, ap, subst, ◌∙◌, arith, codes, length-append, eq-eqb}
use Rattle.std.proofs.lemmas.Bool.{ne_eqb}
use Rattle.std.proofs.lemmas.List.{append_assoc, append-nil, map-append, drop_at, length-map}
use Rattle.asm_token.specs.Tokens.{Token, spelling, Longest, LongestToken, BeginsNoToken}
use Rattle.asm_token.proofs.Lengths.{token_nonempty}
use Rattle.asm_token.proofs.Steps.{same_longest}
use Rattle.md_text.specs.Lines.{lacks}
use Rattle.md_text.specs.Pieces.{Slot, Piece, Literal, Hole, slot_text, is_colon, IsSlot, IsLiteral, HasNoOuterSpace, SpellsPieces, at_end, after_space, literal, hole, SpellsText}
use Rattle.md_text.proofs.Splits.{no_such_byte}
use Rattle.md_text.proofs.SlotTexts.{slot_lacks_greater}
use Rattle.md_text.proofs.TextPieces.{head_of, tail_of, nothing_left, past_space, next_literal, next_slot}
use Rattle.md_lines.specs.declared.pieces.Piece.{Piece as ReadPiece}
use Rattle.md_lines.specs.Fields.{IsSlotText}
use Rattle.md_lines.specs.Fronts.{BeginsWithToken, BeginsWithHole, BeginsWith}
use Rattle.md_lines.specs.Parts.{IsSplitAtByte}
use Rattle.md_lines.specs.Seen.{piece_of}
use Rattle.md_lines.proofs.Places.{split_once, tail_is}

clash : {A : Type 0} (b : Bool) → b ≡ true → b ≡ false → A
clash b p q = let no : true ≡ false → ⊥ = λ e. cc in absurd (no (sym p ∙ q))

-- a hole

hole_front : (x back : List ℕ) → 60 ∷ (x ++ 62 ∷ back) ≡ (60 ∷ (x ++ 62 ∷ [])) ++ back
hole_front x back = ap (λ y. 60 ∷ y) (sym (append_assoc x (62 ∷ []) back))

behind_hole : (x back : List ℕ) → drop (length x + 2) (60 ∷ (x ++ 62 ∷ back)) ≡ back
behind_hole x back =
    ap (drop (length x + 2)) (hole_front x back)
    ∙ drop_at (60 ∷ (x ++ 62 ∷ [])) back (length x + 2) (omega (arith, length-append x (62 ∷ [])))

pub hole_found : (text rest inside back : List ℕ) (h : Slot) → text ≡ codes "<" ++ rest → IsSplitAtByte 62 rest inside back → IsSlotText inside h → BeginsWithHole text h (length inside + 2)
hole_found text rest inside back h e s k =
    let whole : text ≡ 60 ∷ (inside ++ 62 ∷ back) = e ∙ ap (λ y. 60 ∷ y) s.text in
    let behind : drop (length inside + 2) text ≡ back = ap (drop (length inside + 2)) whole ∙ behind_hole inside back in
    record {
      slot = k.slot;
      spelled = whole ∙ ap (λ y. 60 ∷ (y ++ 62 ∷ back)) k.text ∙ ap (λ y. 60 ∷ (slot_text h ++ 62 ∷ y)) (sym behind);
      bytes = ap (λ y. length y + 2) (sym k.text);
    }

pub no_less : (text : List ℕ) → ((rest : List ℕ) → text ≡ codes "<" ++ rest → ⊥) → (h : Slot) (n : ℕ) → BeginsWithHole text h n → ⊥
no_less text none h n b = none (slot_text h ++ 62 ∷ drop n text) b.spelled

hole_split : (text rest : List ℕ) (h : Slot) (n : ℕ) → text ≡ codes "<" ++ rest → BeginsWithHole text h n → IsSplitAtByte 62 rest (slot_text h) (drop n text)
hole_split text rest h n e b = record { text = tail_of 60 60 rest (slot_text h ++ 62 ∷ drop n text) (sym e ∙ b.spelled); first = slot_lacks_greater h b.slot }

pub no_greater : (text rest : List ℕ) → text ≡ codes "<" ++ rest → lacks 62 rest ≡ true → (h : Slot) (n : ℕ) → BeginsWithHole text h n → ⊥
no_greater text rest e l h n b = no_such_byte 62 rest (slot_text h) (drop n text) l (hole_split text rest h n e b).text

pub no_slot : (text rest inside back : List ℕ) → text ≡ codes "<" ++ rest → IsSplitAtByte 62 rest inside back → ((h : Slot) → IsSlotText inside h → ⊥) → (h : Slot) (n : ℕ) → BeginsWithHole text h n → ⊥
no_slot text rest inside back e s none h n b =
    none h (record { slot = b.slot; text = (split_once 62 rest inside back (slot_text h) (drop n text) s (hole_split text rest h n e b)).0 })

-- a token

pub no_token_there : (text : List ℕ) → BeginsNoToken text → (t : Token) (n : ℕ) → BeginsWithToken text t n → ⊥
no_token_there text none t n b = none t (drop n text) b.longest.is_token b.longest.spelled

pub colon_there : (text : List ℕ) (u : Token) (m : ℕ) → LongestToken text u m → is_colon u ≡ true → (t : Token) (n : ℕ) → BeginsWithToken text t n → ⊥
colon_there text u m l c t n b =
    let same = same_longest u t (drop m text) (drop n text) l.is_token b.longest.is_token l.longest b.longest.longest (sym l.spelled ∙ b.longest.spelled) in
    clash (is_colon u) c (ap is_colon same.0 ∙ b.no_colon)

-- a piece

before_piece : (text : List ℕ) (p : Piece) (n : ℕ) (ps : List Piece) → BeginsWith text p n → SpellsPieces (drop n text) ps → SpellsPieces text (p ∷ ps)
before_piece text (Literal t) n ps b s =
    let P : List ℕ → Type 0 = λ ds. SpellsPieces ds (Literal t ∷ ps) in
    subst P (sym b.longest.spelled) (literal t (drop n text) ps (record { token = b.longest.is_token; no_colon = b.no_colon; longest = b.longest.longest }) s)
before_piece text (Hole h) n ps b s =
    let P : List ℕ → Type 0 = λ ds. SpellsPieces ds (Hole h ∷ ps) in
    subst P (sym b.spelled) (hole h (drop n text) ps b.slot s)

-- the pieces are p and those of what is left
record NextPiece (p : Piece) (rest : List ℕ) (ps : List Piece) : Type 0 where
  others : List Piece
  is : ps ≡ p ∷ others
  spelled : SpellsPieces rest others

past_piece : (text : List ℕ) (p : Piece) (n : ℕ) (ps : List Piece) → BeginsWith text p n → SpellsPieces text ps → NextPiece p (drop n text) ps
past_piece text (Literal t) n ps b s =
    let next = next_literal t (drop n text) text ps b.longest.is_token b.longest.longest s b.longest.spelled in
    record { others = next.others; is = next.is; spelled = next.spelled }
past_piece text (Hole h) n ps b s =
    let next = next_slot h (drop n text) text ps b.slot s b.spelled in
    record { others = next.others; is = next.is; spelled = next.spelled }

piece_bytes : (text : List ℕ) (p : Piece) (n : ℕ) → BeginsWith text p n → (0 < n) × (length (drop n text) + n ≡ length text)
piece_bytes text (Literal t) n b =
    let some : 0 < length (spelling t) = token_nonempty t b.longest.is_token in
    let whole : length text ≡ length (spelling t) + length (drop n text) = ap length b.longest.spelled ∙ length-append (spelling t) (drop n text) in
    (omega (arith, some, b.longest.bytes), omega (arith, whole, b.longest.bytes))
piece_bytes text (Hole h) n b =
    let whole : length text ≡ suc (length (slot_text h) + suc (length (drop n text))) = ap length b.spelled ∙ ap suc (length-append (slot_text h) (62 ∷ drop n text)) in
    (omega (arith, b.bytes), omega (arith, whole, b.bytes))

-- each text of pieces that has a byte other than a space in front begins with a piece
record FirstPiece (text : List ℕ) : Type 0 where
  piece : Piece
  count : ℕ
  begins : BeginsWith text piece count

first_token : (t : Token) (bs : List ℕ) → IsLiteral t bs → FirstPiece (spelling t ++ bs)
first_token t bs l =
    let behind : drop (length (spelling t)) (spelling t ++ bs) ≡ bs = drop_at (spelling t) bs (length (spelling t)) refl in
    record {
      piece = Literal t;
      count = length (spelling t);
      begins = record {
        longest = record { is_token = l.token; spelled = ap (λ r. spelling t ++ r) (sym behind); bytes = refl; longest = subst (Longest t) (sym behind) l.longest };
        no_colon = l.no_colon;
      };
    }

first_hole : (h : Slot) (bs : List ℕ) → IsSlot h → FirstPiece (60 ∷ (slot_text h ++ 62 ∷ bs))
first_hole h bs q = record {
  piece = Hole h;
  count = length (slot_text h) + 2;
  begins = record { slot = q; spelled = ap (λ r. 60 ∷ (slot_text h ++ 62 ∷ r)) (sym (behind_hole (slot_text h) bs)); bytes = refl };
}

first_piece : (b : ℕ) (bs cs : List ℕ) (ps : List Piece) → SpellsPieces cs ps → cs ≡ b ∷ bs → eqb b 32 ≡ false → FirstPiece cs
first_piece b bs _ _ at_end e f = let no : [] ≡ b ∷ bs → ⊥ = λ q. cc in absurd (no e)
first_piece b bs _ _ (after_space cs ps h) e f = clash (eqb b 32) (eq-eqb b 32 (sym (head_of 32 b cs bs e))) f
first_piece b bs _ _ (literal t cs ps l h) e f = first_token t cs l
first_piece b bs _ _ (hole s cs ps q h) e f = first_hole s cs q

-- the pieces are these and then those of the rest
pub record Follows (rest : List ℕ) (ps vs : List Piece) : Type 0 where
  pub others : List Piece
  pub is : vs ≡ ps ++ others
  pub spelled : SpellsPieces rest others

-- these pieces are read of the text, up to the rest
pub record PiecesTo (bytes rest : List ℕ) (ps : List Piece) : Type 0 where
  pub onward : (us : List Piece) → SpellsPieces rest us → SpellsPieces bytes (ps ++ us)
  pub back : (vs : List Piece) → SpellsPieces bytes vs → Follows rest ps vs

space_read : (bytes rest more : List ℕ) (ps : List Piece) → rest ≡ 32 ∷ more → PiecesTo bytes rest ps → PiecesTo bytes more ps
space_read bytes rest more ps e r = record {
  onward = λ us h.
      let P : List ℕ → Type 0 = λ bs. SpellsPieces bs us in
      r.onward us (subst P (sym e) (after_space more us h));
  back = λ vs h.
      let f = r.back vs h in
      record { others = f.others; is = f.is; spelled = past_space more rest f.others f.spelled e };
}

piece_read : (bytes rest : List ℕ) (p : Piece) (n : ℕ) (ps : List Piece) → BeginsWith rest p n → PiecesTo bytes rest ps → PiecesTo bytes (drop n rest) (ps ++ p ∷ [])
piece_read bytes rest p n ps b r = record {
  onward = λ us s.
      let Q : List Piece → Type 0 = λ vs. SpellsPieces bytes vs in
      subst Q (sym (append_assoc ps (p ∷ []) us)) (r.onward (p ∷ us) (before_piece rest p n us b s));
  back = λ vs s.
      let f = r.back vs s in
      let next = past_piece rest p n f.others b f.spelled in
      record {
        others = next.others;
        is = f.is ∙ ap (λ us. ps ++ us) next.is ∙ sym (append_assoc ps (p ∷ []) next.others);
        spelled = next.spelled;
      };
}

-- as slices

first_is : (rest : List ℕ) (c : ℕ) → Some c ≡ slice_get rest 0 → rest ≡ c ∷ drop 1 rest
first_is [] c e = let no : Some c ≡ None → ⊥ = λ q. cc in absurd (no e)
first_is (b ∷ bs) c e = let same : c ≡ b = cc in ap (λ d. d ∷ bs) (sym same)

nothing_first : (rest : List ℕ) → None ≡ slice_get rest 0 → rest ≡ []
nothing_first [] e = refl
nothing_first (b ∷ bs) e = let no : None ≡ Some b → ⊥ = λ q. cc in absurd (no e)

pub space_taken : (bytes rest : List ℕ) (c : ℕ) (ps : List Piece) → Some c ≡ slice_get rest 0 → c ≡ 32 → PiecesTo bytes rest ps → PiecesTo bytes (take (length rest - 1) (drop 1 rest)) ps
space_taken bytes rest c ps e b r =
    let P : List ℕ → Type 0 = λ bs. PiecesTo bytes bs ps in
    subst P (sym (tail_is 1 rest)) (space_read bytes rest (drop 1 rest) ps (first_is rest c e ∙ ap (λ d. d ∷ drop 1 rest) b) r)

pub piece_taken : (bytes rest : List ℕ) (p : ReadPiece) (n : ℕ) (xs ys : List ReadPiece) → ys ≡ xs ++ p ∷ [] → BeginsWith rest (piece_of p) n → PiecesTo bytes rest (map piece_of xs) → PiecesTo bytes (take (length rest - n) (drop n rest)) (map piece_of ys)
piece_taken bytes rest p n xs ys m b r =
    let P : List ℕ → Type 0 = λ bs. PiecesTo bytes bs (map piece_of ys) in
    let Q : List Piece → Type 0 = λ ps. PiecesTo bytes (drop n rest) ps in
    subst P (sym (tail_is n rest)) (subst Q (sym (ap (map piece_of) m ∙ map-append piece_of xs (p ∷ []))) (piece_read bytes rest (piece_of p) n (map piece_of xs) b r))

pub piece_shorter : (rest : List ℕ) (p : Piece) (n : ℕ) → BeginsWith rest p n → length (take (length rest - n) (drop n rest)) < length rest
piece_shorter rest p n b =
    let same : length (take (length rest - n) (drop n rest)) ≡ length (drop n rest) = ap length (tail_is n rest) in
    let both = piece_bytes rest p n b in
    omega (arith, both.0, both.1, same)

-- where nothing more is read

pub no_more : (bytes rest : List ℕ) (c : ℕ) (ps : List Piece) → Some c ≡ slice_get rest 0 → (c ≡ 32 → ⊥) → ((p : Piece) (n : ℕ) → BeginsWith rest p n → ⊥) → PiecesTo bytes rest ps → (vs : List Piece) → SpellsText bytes vs → ⊥
no_more bytes rest c ps e d none r vs s =
    let f = r.back vs s.spells in
    let first = first_piece c (drop 1 rest) rest f.others f.spelled (first_is rest c e) (ne_eqb c 32 d) in
    none first.piece first.count first.begins

no_pieces_left : (rest : List ℕ) (ps : List Piece) → rest ≡ [] → SpellsPieces rest ps → ps ≡ []
no_pieces_left rest ps e s = nothing_left rest ps s e

pub no_pieces_read : (bytes rest : List ℕ) (ps : List Piece) → None ≡ slice_get rest 0 → ps ≡ [] → PiecesTo bytes rest ps → (vs : List Piece) → SpellsText bytes vs → ⊥
no_pieces_read bytes rest ps e z r vs s =
    let f = r.back vs s.spells in
    let others : f.others ≡ [] = no_pieces_left rest f.others (nothing_first rest e) f.spelled in
    let all : vs ≡ [] = f.is ∙ ap (λ us. us ++ f.others) z ∙ others in
    absurd (omega (arith, s.some, ap length all))

pub read_to_end : (bytes rest : List ℕ) (ps : List Piece) → None ≡ slice_get rest 0 → 0 < length ps → HasNoOuterSpace bytes → PiecesTo bytes rest ps → SpellsText bytes ps
read_to_end bytes rest ps e l t r =
    let P : List ℕ → Type 0 = λ bs. SpellsPieces bs [] in
    let Q : List Piece → Type 0 = λ vs. SpellsPieces bytes vs in
    record {
      spells = subst Q (append-nil ps) (r.onward [] (subst P (sym (nothing_first rest e)) at_end));
      some = l;
      trimmed = t;
    }

pub no_items : (xs : List ReadPiece) → length xs ≡ 0 → map piece_of xs ≡ []
no_items [] e = refl
no_items (x ∷ xs) e = absurd (omega (arith, e))

pub some_items : (xs : List ReadPiece) → 0 < length xs → 0 < length (map piece_of xs)
some_items xs l = omega (arith, l, length-map xs piece_of)
