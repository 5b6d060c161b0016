-- The tokens of an instruction's line.
use Rattle.std.proofs.Common.{◌≡◌, ◌≢◌, ◌⊎◌, inl, inr, ℕ, zero, suc, ◌-◌, ◌^◌, ◌<◌, ◌≤◌, ◌==◌, ◌&&◌, ◌||◌, ℤ, pos, negsuc, Bool, true, false, cond, List, [], ◌∷◌, ◌++◌, length, map, drop, filter_map, Option, Some, None, slice_get, All, AllPairs, refl, sym, ap, subst, ◌∙◌, arith, length-append}
use Rattle.std.specs.Prelude.{nat_lt}
use Rattle.std.specs.Fmt.{signed_decimal}
use Rattle.std.specs.List.{cons_option}
use Rattle.std.proofs.lemmas.Bool.{and_parts}
use Rattle.std.proofs.lemmas.List.Elements.{All-head, All-tail, All-cons, All-nil}
use Rattle.rtl_word.specs.Words.{IsWordSize}
use Rattle.asm_token.specs.Tokens.{Token, Name as NameToken, Number as NumberToken, Mark as MarkToken, IsToken, spelling}
use Rattle.asm_token.specs.Line.{is_word, space_between, after_token, line_of}
use Rattle.rtl_tree.specs.Names.{AreNames as AreCNames}
use Rattle.rtl_tree.specs.declared.cells.Cell.{Cell}
use Rattle.rtl_tree.specs.declared.cells.Cell.TheVariants.{Hard, Temp, Flag, Pc, Input, Output, Halt, Hole as RegisterHole}
use Rattle.rtl_tree.specs.Moves.{Goal, ToCell, ToMemory, Move}
use Rattle.rtl_tree.specs.declared.c_names.Names.{Names}
use Rattle.md_rows.specs.declared.description.Register.{Register}
use Rattle.md_rows.specs.declared.description.RawDescription.{RawDescription}
use Rattle.md_rows.specs.declared.row.Row.{Row}
use Rattle.md_rows.specs.declared.row.Hole.{Hole}
use Rattle.md_rows.specs.declared.row.Hole.TheVariants.{Reg as RegHole, Num as NumHole, Sym as SymHole, Label as LabelHole}
use Rattle.md_rows.specs.declared.row.Piece.{Piece}
use Rattle.md_rows.specs.declared.row.Piece.TheVariants.{Name, Num, Byte, Hole as HolePiece}
use Rattle.md_rows.specs.declared.instance.Bound.{Bound}
use Rattle.md_rows.specs.declared.instance.Instance.{Instance}
use Rattle.md_rows.specs.Fits.{is_in, printed, below_zero, turned, within}
use Rattle.md_rows.specs.Instances.{register_name, register_by, filled_goal, filled_move, effects_with, assigned_register, piece_token, IsInstance}
use Rattle.md_rows.specs.Lines.{hole_bytes, piece_bytes, is_word as is_word_piece, space_bytes, bytes_after, line_bytes, longest_line}
use Rattle.md_text.specs.Rules.{is_reserved, is_block_label}
use Rattle.md_overlap.specs.Premises.{AreNames}
use Rattle.md_literals.specs.Literals.{IsLiteralPiece, HasLiterals}
use Rattle.asm_row.specs.Line.{naming_of, IsNamed, HasNumber, IsLineOf, IsWritten}
use Rattle.asm_row.specs.Readable.{StandInOrder, IsReadable}
use Rattle.asm_row.specs.Reading.{Value, Register_, Number, Object, Block, Function, Reads, ReadsText, AreValues, register_of, assigned_by}
use Rattle.asm_row.specs.Found.{IsFound}
use Rattle.asm_row.proofs.HoleValues.{no_item, same_item, IsBoundOf, bound_of}
use Rattle.asm_row.proofs.Texts.{first_left, rest_left}
use Rattle.asm_row.proofs.Unique.{line_reads}
use Rattle.asm_line.proofs.Printed.{ready, row_written, name_within, number_short, label_short}
use Rattle.asm_program.specs.Places.{symbol_in, behind_underscore}
use Rattle.asm_program.specs.Rules.{begins_with}
use Rattle.asm_print.specs.Layout.{tokens_by, tokens_of}
use Rattle.asm_print.proofs.Speaking.{name_is_token, block_is_token, IsOwn}

-- the tokens of the line of an instance are those that its row gives

some_tokens : {A : Type 0} (f : A → Option Token) (xs : List A) (ts : List Token) → map f xs ≡ map (λ t. Some t) ts → filter_map f xs ≡ ts
some_tokens f [] [] e = refl
some_tokens f [] (t ∷ ts) e = absurd (cc)
some_tokens f (x ∷ xs) [] e = absurd (cc)
some_tokens f (x ∷ xs) (t ∷ ts) e =
    ap (λ (o : Option Token). cons_option o (filter_map f xs)) (first (f x) (Some t) (map f xs) (map (λ u. Some u) ts) e)
    ∙ ap (λ (us : List Token). t ∷ us) (some_tokens f xs ts (rest (f x) (Some t) (map f xs) (map (λ u. Some u) ts) e))
  where
    first : (o q : Option Token) (os qs : List (Option Token)) → o ∷ os ≡ q ∷ qs → o ≡ q
    first o q os qs e = cc

    rest : (o q : Option Token) (os qs : List (Option Token)) → o ∷ os ≡ q ∷ qs → os ≡ qs
    rest o q os qs e = cc

pub tokens_same : (d : RawDescription) (n : Names) (i : Instance) (ts : List Token) → IsLineOf d n i ts → tokens_of d n i ≡ ts
tokens_same d n i ts l =
    ap (tokens_by d n i.binding) l.is_instance.has_row ∙ some_tokens (piece_token d.word (naming_of d n) l.row.holes i.binding) l.row.text ts l.has

pub line_is : (d : RawDescription) (n : Names) (i : Instance) (bytes : List ℕ) → IsWritten d n i bytes → bytes ≡ line_of (tokens_of d n i)
line_is d n i bytes w = w.spelled ∙ ap line_of (sym (tokens_same d n i w.tokens w.line))

-- the line of an instance

pub has_line : (d : RawDescription) (n : Names) (i : Instance) (row : Row) → IsReadable d → IsInstance d i row → All (IsNamed n) i.binding → IsLineOf d n i (tokens_of d n i)
has_line d n i row readable it named =
    let w = row_written d n row i.binding _ (ready d n i row row readable it it.has_row named) refl in
    let line : IsLineOf d n i w.tokens = record { row = row; is_instance = it; has = w.has } in
    subst (IsLineOf d n i) (sym (tokens_same d n i w.tokens line)) line

-- names that aren't reserved

or_false : (a b : Bool) → (a || b) ≡ false → (a ≡ false) × (b ≡ false)
or_false true b h = absurd (let q : true ≡ false = h in cc)
or_false false b h = (refl, h)

free_is_own : (name : List ℕ) → is_reserved name ≡ false → begins_with 46 name ≡ false
free_is_own [] h = refl
free_is_own (c ∷ cs) h = (or_false (c == 46) (is_block_label (c ∷ cs)) (or_false (c == 95) (c == 46 || is_block_label (c ∷ cs)) h).1).0

no_symbol : (name : List ℕ) → is_reserved name ≡ false → behind_underscore name ≡ None
no_symbol [] h = refl
no_symbol (c ∷ cs) h = past (c == 95) (or_false (c == 95) (c == 46 || is_block_label (c ∷ cs)) h).0
  where
    past : (b : Bool) → b ≡ false → cond b (Some cs) None ≡ None
    past true e = absurd (let q : true ≡ false = e in cc)
    past false e = refl

-- what each token is: it has a symbol's name only where the value at its hole is an object or a function of this name

abbrev pub NamesValue : List ℕ → Value → Type 0
NamesValue s (Object o) = o ≡ s
NamesValue s (Function f) = f ≡ s
NamesValue s _ = ⊥

-- one of the values has this name
abbrev pub SomeNames : List ℕ → List Value → Type 0
SomeNames s [] = ⊥
SomeNames s (v ∷ vs) = NamesValue s v ⊎ SomeNames s vs

abbrev pub HasSymbolsOf : List Value → Token → Type 0
HasSymbolsOf vs t = (s : List ℕ) → symbol_in t ≡ Some s → SomeNames s vs

pub record IsGoodToken (vs : List Value) (bytes : ℕ) (t : Token) : Type 0 where
  pub token : IsToken t
  pub own : IsOwn t
  pub symbols : HasSymbolsOf vs t
  pub short : length (spelling t) ≤ bytes

none_from : {A : Type 0} (o : Option (List ℕ)) → o ≡ None → (s : List ℕ) → o ≡ Some s → A
none_from o e s f = absurd (no_item s (sym e ∙ f))

register_token : (rs : List Register) (k : ℕ) (name : List ℕ) → register_name rs k ≡ Some name → All (λ r. IsToken (NameToken r.name)) rs → AreNames rs
    → IsToken (NameToken name) × (is_reserved name ≡ false)
register_token [] k name e h a = absurd (no_item name e)
register_token (r ∷ rs) k name e h a =
    pick (r.number == k) e (λ f. register_token rs k name f (All-tail (λ x. IsToken (NameToken x.name)) r rs h) a.2)
  where
    pick : (b : Bool) → cond b (Some r.name) (register_name rs k) ≡ Some name → (register_name rs k ≡ Some name → IsToken (NameToken name) × (is_reserved name ≡ false))
        → IsToken (NameToken name) × (is_reserved name ≡ false)
    pick true q f =
        subst (λ (x : List ℕ). IsToken (NameToken x) × (is_reserved x ≡ false)) (same_item r.name name q) (All-head (λ x. IsToken (NameToken x.name)) r rs h, a.0)
    pick false q f = f q

below_32 : (w : ℕ) → IsWordSize w → 2 ^ w ≤ 2 ^ 32
below_32 w (inl e) = subst (λ (v : ℕ). 2 ^ v ≤ 2 ^ 32) (sym e) (let h : 65536 ≤ 4294967296 = omega arith in h)
below_32 w (inr e) = subst (λ (v : ℕ). 2 ^ v ≤ 2 ^ 32) (sym e) (let h : 4294967296 ≤ 4294967296 = omega arith in h)

one_of_two : (b c : Bool) (x y p : ℤ) → cond b (Some x) (cond c (Some y) None) ≡ Some p → (x ≡ p) ⊎ (y ≡ p)
one_of_two true c x y p e = inl (same_item x p e)
one_of_two false true x y p e = inr (same_item y p e)
one_of_two false false x y p e = absurd (no_item p e)

turned_small : (w : ℕ) (inverted : Bool) (v : ℕ) → v < 2 ^ w → turned w inverted v < 2 ^ w
turned_small w true v h = omega arith
turned_small w false v h = h

number_token : (w : ℕ) (low high : ℤ) (inverted : Bool) (v : ℕ) (z : ℤ) → IsWordSize w → v < 2 ^ w → printed w low high inverted v ≡ Some z → IsToken (NumberToken z)
number_token w low high inverted v z size h e =
    let t = turned w inverted v in
    let most = below_32 w size in
    let small = turned_small w inverted v h in
    elim (one_of_two (within low high (pos t)) (within low high (below_zero w t)) (pos t) (below_zero w t) z e) [
      | inl q ↦ subst (λ (x : ℤ). IsToken (NumberToken x)) q (positive t (omega (arith, most, small)))
      | inr q ↦ subst (λ (x : ℤ). IsToken (NumberToken x)) q (negative (2 ^ w - suc t) (omega (arith, most, small)))
    ]
  where
    positive : (m : ℕ) → m < 10 ^ 10 → IsToken (NumberToken (pos m))
    positive m k = k

    negative : (m : ℕ) → suc m < 10 ^ 10 → IsToken (NumberToken (negsuc m))
    negative m k = k

first_names : (s : List ℕ) (v : Value) (vs : List Value) → NamesValue s v → SomeNames s (v ∷ vs)
first_names s v vs h = inl h

same_some : (a b : List ℕ) → Some a ≡ Some b → a ≡ b
same_some a b e = cc

module _ (d : RawDescription) (readable : IsReadable d) (literals : HasLiterals d) where
  -- a token at a hole
  hole_good : (h : Hole) (t : Token) (v : Value) (vs : List Value) → Reads d.word d.registers h t v → IsGoodToken (v ∷ vs) (hole_bytes d.registers (Some h)) t
  hole_good (RegHole class) (NameToken name) (Register_ k) vs a =
      let r = register_token d.registers k name a.1 literals.registers readable.names in
      record {
        token = r.0;
        own = free_is_own name r.1;
        symbols = λ s e. none_from (behind_underscore name) (no_symbol name r.1) s e;
        short = name_within d.registers class k name (and_parts (nat_lt k 64) (is_in class k) a.0).1 a.1;
      }
  hole_good (NumHole low high inverted) (NumberToken z) (Number v) vs a = record {
    token = number_token d.word low high inverted v z readable.size a.0 a.1;
    own = tt;
    symbols = λ s e. absurd (no_item s e);
    short = number_short d.word low high inverted v z readable.size a.0 a.1;
  }
  hole_good SymHole (NameToken name) (Object o) vs a =
      subst (IsGoodToken (Object o ∷ vs) 64) (ap NameToken (sym a.1)) (record {
        token = name_is_token o a.0;
        own = refl;
        symbols = λ s e. inl (same_some o s e);
        short = let k = a.0.long in omega (arith, k);
      })
  hole_good LabelHole (NameToken name) (Block b) vs a =
      subst (IsGoodToken (Block b ∷ vs) 64) (ap NameToken (sym a.1)) (record {
        token = block_is_token b a.0;
        own = refl;
        symbols = λ s e. absurd (no_item s e);
        short = label_short b a.0;
      })
  hole_good LabelHole (NameToken name) (Function f) vs a =
      subst (IsGoodToken (Function f ∷ vs) 64) (ap NameToken (sym a.1)) (record {
        token = name_is_token f a.0;
        own = refl;
        symbols = λ s e. inl (same_some f s e);
        short = let k = a.0.long in omega (arith, k);
      })
  hole_good _ _ _ vs a = absurd a

  more_values : (v : Value) (vs : List Value) (t : Token) → HasSymbolsOf vs t → HasSymbolsOf (v ∷ vs) t
  more_values v vs t h s e = inr (h s e)

  module _ (all : List Hole) where
    -- each token is that of its piece
    abbrev AreGoodTokens : List Value → List Piece → List Token → Type 0
    AreGoodTokens vs [] [] = Unit {0}
    AreGoodTokens vs (p ∷ ps) (t ∷ ts) = IsGoodToken vs (piece_bytes d.registers all p) t × (is_word t ≡ is_word_piece p) × AreGoodTokens vs ps ts
    AreGoodTokens vs _ _ = ⊥

    weaker : (v : Value) (vs : List Value) (ps : List Piece) (ts : List Token) → AreGoodTokens vs ps ts → AreGoodTokens (v ∷ vs) ps ts
    weaker v vs [] [] a = tt
    weaker v vs (p ∷ ps) (t ∷ ts) a = (record { token = a.0.token; own = a.0.own; symbols = more_values v vs t a.0.symbols; short = a.0.short }, a.1, weaker v vs ps ts a.2)
    weaker v vs [] (t ∷ ts) a = absurd a
    weaker v vs (p ∷ ps) [] a = absurd a

    hole_word : (w : ℕ) (rs : List Register) (h : Hole) (t : Token) (v : Value) → Reads w rs h t v → is_word t ≡ true
    hole_word w rs h (NameToken name) v a = refl
    hole_word w rs h (NumberToken z) v a = refl
    hole_word w rs (RegHole class) (MarkToken c) v a = absurd a
    hole_word w rs (NumHole low high inverted) (MarkToken c) v a = absurd a
    hole_word w rs SymHole (MarkToken c) v a = absurd a
    hole_word w rs LabelHole (MarkToken c) v a = absurd a

    hole_at : (j k : ℕ) (h : Hole) (hs : List Hole) → j ≡ k → drop k all ≡ h ∷ hs → slice_get all j ≡ Some h
    hole_at j k h hs e dh = ap (slice_get all) e ∙ first_left k all h hs dh

    text_good : (k : ℕ) (ps : List Piece) (hs : List Hole) (ts : List Token) (vs : List Value) → StandInOrder k ps hs → drop k all ≡ hs
        → ReadsText d.word d.registers ps hs ts vs → All IsLiteralPiece ps → AreGoodTokens vs ps ts
    text_good k [] [] [] [] s dh r l = tt
    text_good k (Name bytes ∷ ps) hs (t ∷ ts) vs s dh r l =
        let x = All-head IsLiteralPiece (Name bytes) ps l in (
          subst (IsGoodToken vs (length bytes)) r.0 (record {
            token = x.0;
            own = free_is_own bytes x.1;
            symbols = λ n e. none_from (behind_underscore bytes) (no_symbol bytes x.1) n e;
            short = omega arith;
          }),
          ap is_word (sym r.0),
          text_good k ps hs ts vs s dh r.1 (All-tail IsLiteralPiece (Name bytes) ps l),
        )
    text_good k (Num z ∷ ps) hs (t ∷ ts) vs s dh r l = (
      subst (IsGoodToken vs (length (signed_decimal z))) r.0 (record {
        token = All-head IsLiteralPiece (Num z) ps l;
        own = tt;
        symbols = λ n e. absurd (no_item n e);
        short = omega arith;
      }),
      ap is_word (sym r.0),
      text_good k ps hs ts vs s dh r.1 (All-tail IsLiteralPiece (Num z) ps l),
    )
    text_good k (Byte c ∷ ps) hs (t ∷ ts) vs s dh r l =
        let x = All-head IsLiteralPiece (Byte c) ps l in (
          subst (IsGoodToken vs 1) r.0 (record { token = x.0; own = x.1; symbols = λ n e. absurd (no_item n e); short = omega arith }),
          ap is_word (sym r.0),
          text_good k ps hs ts vs s dh r.1 (All-tail IsLiteralPiece (Byte c) ps l),
        )
    text_good k (HolePiece j ∷ ps) (h ∷ hs) (t ∷ ts) (v ∷ vs) s dh r l = (
      subst (λ (o : Option Hole). IsGoodToken (v ∷ vs) (hole_bytes d.registers o) t) (sym (hole_at j k h hs s.0 dh)) (hole_good h t v vs r.0),
      hole_word d.word d.registers h t v r.0,
      weaker v vs ps ts (text_good (suc k) ps hs ts vs s.1 (rest_left k all h hs dh) r.1 (All-tail IsLiteralPiece (HolePiece j) ps l)),
    )
    text_good k _ _ _ _ s dh r l = absurd r

    -- the line is no longer than the row's longest

    gap_long : (b c : Bool) → b ≡ c → length {A = ℕ} (cond b (32 ∷ []) []) ≤ space_bytes c
    gap_long true true e = omega arith
    gap_long false false e = omega arith
    gap_long true false e = absurd (cc)
    gap_long false true e = absurd (cc)

    after_long : (t : Token) (vs : List Value) (ps : List Piece) (ts : List Token) → AreGoodTokens vs ps ts → length (after_token t ts) ≤ bytes_after d.registers all (is_word t) ps
    after_long t vs [] [] a = omega arith
    after_long t vs (p ∷ ps) (u ∷ us) a =
        let gap = gap_long (is_word t && is_word u) (is_word t && is_word_piece p) (ap (λ (b : Bool). is_word t && b) a.1) in
        let more = subst (λ (b : Bool). length (after_token u us) ≤ bytes_after d.registers all b ps) a.1 (after_long u vs ps us a.2) in
        let one = a.0.short in
        omega (arith, gap, more, one, length-append (space_between t u) (spelling u ++ after_token u us), length-append (spelling u) (after_token u us))
    after_long t vs [] (u ∷ us) a = absurd a
    after_long t vs (p ∷ ps) [] a = absurd a

    line_long : (vs : List Value) (ps : List Piece) (ts : List Token) → AreGoodTokens vs ps ts → length (line_of ts) ≤ line_bytes d.registers all ps
    line_long vs [] [] a = omega arith
    line_long vs (p ∷ []) (t ∷ []) a = a.0.short
    line_long vs (p ∷ (q ∷ qs)) (t ∷ (u ∷ us)) a =
        let more = subst (λ (b : Bool). length (after_token u us) ≤ bytes_after d.registers all b qs) a.2.1 (after_long u vs qs us a.2.2) in
        let one = a.0.short in
        let two = a.2.0.short in
        omega (arith, more, one, two, length-append (spelling t) (32 ∷ (spelling u ++ after_token u us)), length-append (spelling u) (after_token u us))
    line_long vs (p ∷ []) (t ∷ (u ∷ us)) a = absurd a.2
    line_long vs (p ∷ (q ∷ qs)) (t ∷ []) a = absurd a.2
    line_long vs [] (t ∷ ts) a = absurd a
    line_long vs (p ∷ ps) [] a = absurd a

    all_tokens : (P : Token → Type 0) → (vs : List Value) → ((b : ℕ) (t : Token) → IsGoodToken vs b t → P t) → (ps : List Piece) (ts : List Token) → AreGoodTokens vs ps ts → All P ts
    all_tokens P vs f [] [] a = All-nil P
    all_tokens P vs f (p ∷ ps) (t ∷ ts) a = All-cons P t ts (f (piece_bytes d.registers all p) t a.0) (all_tokens P vs f ps ts a.2)
    all_tokens P vs f [] (t ∷ ts) a = absurd a
    all_tokens P vs f (p ∷ ps) [] a = absurd a

-- the registers that are assigned, told by values

module _ (d : RawDescription) (n : Names) (objects : AreCNames n.objects) (functions : AreCNames n.functions) where
  register_is : (h : ℕ) (v : Value) (c : Bound) → IsBoundOf d n objects functions v c → assigned_register (ToCell (register_by (RegisterHole h) (Some c))) ≡ register_of (Some v)
  register_is h (Register_ k) c e = ap (λ (x : Bound). assigned_register (ToCell (register_by (RegisterHole h) (Some x)))) e
  register_is h (Number v) c e = ap (λ (x : Bound). assigned_register (ToCell (register_by (RegisterHole h) (Some x)))) e
  register_is h (Object o) c e = ap (λ (x : Bound). assigned_register (ToCell (register_by (RegisterHole h) (Some x)))) e.1
  register_is h (Block m) c e = ap (λ (x : Bound). assigned_register (ToCell (register_by (RegisterHole h) (Some x)))) e
  register_is h (Function f) c e = ap (λ (x : Bound). assigned_register (ToCell (register_by (RegisterHole h) (Some x)))) e.1

  register_at : (h k : ℕ) (bs : List Bound) (vs : List Value) → AreValues n bs vs
      → assigned_register (ToCell (register_by (RegisterHole h) (slice_get bs k))) ≡ register_of (slice_get vs k)
  register_at h k [] [] a = refl
  register_at h k [] (v ∷ vs) a = absurd a
  register_at h k (c ∷ bs) [] a = absurd a
  register_at h zero (c ∷ bs) (v ∷ vs) a = register_is h v c (bound_of d n objects functions c v a.0)
  register_at h (suc k) (c ∷ bs) (v ∷ vs) a = register_at h k bs vs a.1

  goal_is : (bs : List Bound) (vs : List Value) (g : Goal) → AreValues n bs vs → assigned_register (filled_goal bs g) ≡ assigned_by vs g
  goal_is bs vs (ToCell (RegisterHole h)) a = register_at h h bs vs a
  goal_is bs vs (ToCell (Hard k)) a = refl
  goal_is bs vs (ToCell (Temp k)) a = refl
  goal_is bs vs (ToCell (Flag k)) a = refl
  goal_is bs vs (ToCell Pc) a = refl
  goal_is bs vs (ToCell Input) a = refl
  goal_is bs vs (ToCell Output) a = refl
  goal_is bs vs (ToCell Halt) a = refl
  goal_is bs vs (ToMemory w t) a = refl

  registers_are : (bs : List Bound) (vs : List Value) (ms : List Move) → AreValues n bs vs
      → filter_map (λ m. assigned_register m.to) (map (filled_move bs) ms) ≡ filter_map (λ m. assigned_by vs m.to) ms
  registers_are bs vs [] a = refl
  registers_are bs vs (m ∷ ms) a =
      ap (λ (o : Option Cell). cons_option o (filter_map (λ x. assigned_register x.to) (map (filled_move bs) ms))) (goal_is bs vs m.to a)
      ∙ ap (cons_option (assigned_by vs m.to)) (registers_are bs vs ms a)

  -- what is known of the tokens of an instruction
  pub record IsGoodLine (i : Instance) (ts : List Token) : Type 0 where
    pub values : List Value
    pub bound : AreValues n i.binding values
    pub found : IsFound d ts i.row values
    pub some : 0 < length ts
    pub tokens : All IsToken ts
    pub own : All IsOwn ts
    pub symbols : All (HasSymbolsOf values) ts
    pub short : length (line_of ts) ≤ 639

  as_many : (readable : IsReadable d) (literals : HasLiterals d) (all : List Hole) (vs : List Value) (ps : List Piece) (ts : List Token) → AreGoodTokens d readable literals all vs ps ts
      → 0 < length ps → 0 < length ts
  as_many readable literals all vs [] ts a h = absurd (omega arith)
  as_many readable literals all vs (p ∷ ps) [] a h = absurd a
  as_many readable literals all vs (p ∷ ps) (t ∷ ts) a h = omega arith

  pub good_line : (readable : IsReadable d) (literals : HasLiterals d) (i : Instance) (row : Row) (ts : List Token) → IsInstance d i row → All HasNumber i.binding → IsLineOf d n i ts
      → IsGoodLine i ts
  good_line readable literals i row ts it numbers line =
      let r = line_reads d readable n objects functions i ts numbers line in
      let same = same_item row r.row (sym it.has_row ∙ r.at.has) in
      let short = subst (λ (x : Row). longest_line d.registers x.holes x.text ≤ 640) same it.short in
      let good = text_good d readable literals r.row.holes 0 r.row.text r.row.holes ts r.at.values (readable.rows i.row r.row r.at.has).in_order refl r.at.reads (literals.pieces i.row r.row r.at.has) in
      let long = line_long d readable literals r.row.holes r.at.values r.row.text ts good in
      record {
        values = r.at.values;
        bound = r.are;
        found = record {
          row = r.row;
          has = r.at.has;
          reading = record {
            reads = r.at.reads;
            short = short;
            different = subst (AllPairs (λ a b. a ≢ b)) (registers_are i.binding r.at.values r.row.effects r.are)
                (subst (λ (x : Row). AllPairs (λ a b. a ≢ b) (filter_map (λ m. assigned_register m.to) (effects_with x i.binding))) same it.different);
          };
        };
        some = as_many readable literals r.row.holes r.at.values r.row.text ts good (literals.some i.row r.row r.at.has);
        tokens = all_tokens d readable literals r.row.holes IsToken r.at.values (λ b t g. g.token) r.row.text ts good;
        own = all_tokens d readable literals r.row.holes IsOwn r.at.values (λ b t g. g.own) r.row.text ts good;
        symbols = all_tokens d readable literals r.row.holes (HasSymbolsOf r.at.values) r.at.values (λ b t g. g.symbols) r.row.text ts good;
        short = omega (arith, long, short);
      }
