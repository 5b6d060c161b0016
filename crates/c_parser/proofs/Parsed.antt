-- What the reading of a whole list of tokens says.
use Rattle.std.proofs.Common.{◌≡◌, ℕ, suc, ◌<◌, ◌≤◌, List, [], ◌∷◌, ◌++◌, length, Ok, Err, refl, sym, ap, subst, ◌∙◌, arith}
use Rattle.c_tree.specs.declared.syntax.Syntax.{Syntax}
use denote.Enum.Bare.{same_true}
use Rattle.std.proofs.Common.{rules}
use Rattle.c_grammar.specs.contracts.sign.Sign.{the_type}
use Rattle.c_grammar.specs.declared.sign.Sign.{Sign}
use Rattle.c_grammar.specs.declared.sign.Sign.TheVariants as sign
use Rattle.c_grammar.specs.Words.{Lexeme, lexemes, sign_of_word}
use Rattle.std.proofs.Common.{◌-◌, get_or}
use Rattle.std.proofs.lemmas.List.{length-append}
use Rattle.vp_io.specs.declared.answers.Reason.{Reason}
use Rattle.c_tree.specs.declared.token.At.{At}
use Rattle.c_tree.specs.declared.token.Token.{Token}
use Rattle.c_tree.specs.declared.token.TokenKind.TheVariants.{End}
use Rattle.c_reading.specs.Ahead.{value_of, Fails}
use Rattle.c_reading.specs.declared.fault.Fault.{Fault}
use Rattle.c_reading.specs.declared.fault.Fault.TheVariants as fault
use Rattle.c_parser.specs.Answers.{Breaks, no_program, too_deep, reason_of}
use Rattle.c_grammar.specs.Spelling.{Spelled, FirstBad, FirstDeep, Ended}
use Rattle.c_reading.specs.Parsers.{Wrong, Deep, Out, Read, sign_at, place_at}
use Rattle.c_program.specs.Statements as st
use Rattle.c_parser.proofs.Machine as m
use Rattle.c_parser.proofs.Machine.{run, Outcome}
use Rattle.c_parser.proofs.Whole.{tokens_of, shallow, okay, ok_same, Ran, Stuck, Sunk, outcome, read_spelled, stuck_at, sunk_at, never_behind, spelled_read}
use Rattle.c_parser.proofs.Sim.{Sim}
use Rattle.c_parser.proofs.StatSim.{End_next, parts_sim}

abbrev pub reading : ℕ → List Lexeme → Read Syntax
reading d us = st.parts shallow d [] 0 us

abbrev Told : List Lexeme → Read Syntax → Type 0
Told us a = Sim shallow a (run shallow us (m.program [])) (λ p. m.program p.parts) (λ p k r. End_next p r)

told : (d : ℕ) (us : List Lexeme) (a : Read Syntax) → reading d us ≡ a → Told us a
told d us a e = subst (λ b. Told us b) e (parts_sim shallow d [] 0 us refl)

ended_run : (p : Syntax) (t : Lexeme) (r : List Lexeme) → End_next p (t ∷ r) → run shallow (t ∷ r) (m.program p.parts) ≡ okay p
unfolding sign_at place_at
ended_run p t r h = at_end_sign (sign_of_word t.word) (same_true the_type (search rules) (sign_of_word t.word) sign.End h.sign) ∙ ap (λ (at : At). okay (record { parts = p.parts; end = at })) (sym h.place)
  where
    accepted : (a : Syntax) (r : List Lexeme) → run shallow r (m.finished a) ≡ okay a
    accepted a [] = refl
    accepted a (x ∷ r) = refl

    at_end_sign : (s : Sign) → s ≡ sign.End → m.moved shallow (suc (length r)) (m.on_program t.at s p.parts) (λ s2. run shallow r s2) ≡ okay (record { parts = p.parts; end = t.at })
    at_end_sign s e = subst (λ y. m.moved shallow (suc (length r)) (m.on_program t.at y p.parts) (λ s2. run shallow r s2) ≡ okay (record { parts = p.parts; end = t.at })) (sym e) (accepted (record { parts = p.parts; end = t.at }) r)

abbrev wrong_out : ℕ → Outcome
wrong_out n = Err (Wrong n)

abbrev deep_out : ℕ → Outcome
deep_out n = Err (Deep n)

ran_at : (us : List Lexeme) (v : Outcome) → run shallow us (m.program []) ≡ v → Ran us v
ran_at us v e = subst (λ w. Ran us w) e (outcome us)

-- what was read up to the end is the tree
pub found : (d : ℕ) (us : List Lexeme) (x : Syntax × ℕ × List Lexeme) → Ended us → reading d us ≡ Ok x → Spelled us x.0
found d us x en e = let p : Told us (Ok x) = told d us (Ok x) e in at_rest x.2 p.1 p.0
  where
    at_rest : (r : List Lexeme) → End_next x.0 r → run shallow us (m.program []) ≡ run shallow r (m.program x.0.parts) → Spelled us x.0
    at_rest [] h v = let k : Stuck us 0 = ran_at us (wrong_out 0) v in absurd (never_behind us 0 k en (no_length k.back k.left))
      where
        no_length : (l : List Lexeme) → length l ≡ 0 → l ≡ []
        no_length [] h = refl
        no_length (y ∷ l) h = absurd (omega (arith, h))
    at_rest (t ∷ r) h v = read_spelled us x.0 en (ran_at us (okay x.0) (v ∙ ended_run x.0 t r h))

-- the tokens from a fault on
pub record Fault_at (us : List Lexeme) (j : ℕ) (P : Lexeme → Type 0) : Type 0 where
  pub before : List Lexeme
  pub token : Lexeme
  pub rest : List Lexeme
  pub split : us ≡ before ++ token ∷ rest
  pub left : length (token ∷ rest) ≡ j
  pub what : P token

pub wrong_at : (d : ℕ) (us : List Lexeme) (j : ℕ) → Ended us → reading d us ≡ Err (Wrong j) → Fault_at us j (λ t. FirstBad us t.at)
wrong_at d us j en e = at_back (told d us (Err (Wrong j)) e)
  where
    by_back : (k : Stuck us j) (back : List Lexeme) → k.back ≡ back → Fault_at us j (λ t. FirstBad us t.at)
    by_back k [] b = absurd (never_behind us j k en b)
    by_back k (t ∷ rest) b = record { before = tokens_of k.taken; token = t; rest = rest; split = k.split ∙ ap (λ l. tokens_of k.taken ++ l) b; left = ap length (sym b) ∙ k.left; what = stuck_at us j k t rest b }

    at_back : run shallow us (m.program []) ≡ Err (Wrong j) → Fault_at us j (λ t. FirstBad us t.at)
    at_back h = let k : Stuck us j = ran_at us (Err (Wrong j)) h in by_back k k.back refl

pub deep_at : (d : ℕ) (us : List Lexeme) (j : ℕ) → reading d us ≡ Err (Deep j) → Fault_at us j (λ t. FirstDeep us t.at)
deep_at d us j e = let k : Sunk us j = ran_at us (Err (Deep j)) (told d us (Err (Deep j)) e) in record { before = tokens_of k.taken; token = k.token; rest = k.back; split = k.split; left = k.left; what = sunk_at us j k }

-- what is spelled within the nesting is read so, unless the bound on calls runs out
abbrev pub Reads_so : Syntax → Read Syntax → Type 0
Reads_so p (Ok x) = x.0 ≡ p
Reads_so p (Err Out) = Unit {0}
Reads_so p (Err _) = ⊥

pub only : (d : ℕ) (us : List Lexeme) (p : Syntax) → Spelled us p → (a : Read Syntax) → reading d us ≡ a → Reads_so p a
only d us p s (Ok x) e = let q : Told us (Ok x) = told d us (Ok x) e in rest_of x.2 q.1 (sym q.0 ∙ spelled_read p us s)
  where
    rest_of : (r : List Lexeme) → End_next x.0 r → run shallow r (m.program x.0.parts) ≡ okay p → x.0 ≡ p
    rest_of [] h v = absurd cc
    rest_of (t ∷ r) h v = ok_same x.0 p (sym (ended_run x.0 t r h) ∙ v)
only d us p s (Err (Wrong j)) e = apart (sym (told d us (Err (Wrong j)) e) ∙ spelled_read p us s)
  where
    apart : wrong_out j ≡ okay p → ⊥
    apart h = absurd cc
only d us p s (Err (Deep j)) e = apart (sym (told d us (Err (Deep j)) e) ∙ spelled_read p us s)
  where
    apart : deep_out j ≡ okay p → ⊥
    apart h = absurd cc
only d us p s (Err Out) e = tt

-- ---- what the parser answers

pub found_value : (d : ℕ) (us : List Lexeme) (a : Syntax) → Ended us → value_of (reading d us) ≡ Ok a → Spelled us a
found_value d us a en e = by_read (reading d us) refl e
  where
    by_read : (r : Read Syntax) → reading d us ≡ r → value_of r ≡ Ok a → Spelled us a
    by_read (Ok x) is v = let f : x.0 ≡ a = cc in subst (λ y. Spelled us y) f (found d us x en is)
    by_read (Err (Wrong j)) is v = absurd cc
    by_read (Err (Deep j)) is v = absurd cc
    by_read (Err Out) is v = absurd cc

pub only_value : (d : ℕ) (us : List Lexeme) (a p : Syntax) → Spelled us p → value_of (reading d us) ≡ Ok a → a ≡ p
only_value d us a p s e = by_read (reading d us) refl e
  where
    by_read : (r : Read Syntax) → reading d us ≡ r → value_of r ≡ Ok a → a ≡ p
    by_read (Ok x) is v = let f : x.0 ≡ a = cc in sym f ∙ only d us p s (Ok x) is
    by_read (Err (Wrong j)) is v = absurd cc
    by_read (Err (Deep j)) is v = absurd cc
    by_read (Err Out) is v = absurd cc

-- the place of a token by how many are left
place_before : (tokens : List Token) (before : List Lexeme) (t : Lexeme) (rest : List Lexeme) (d : Token) → lexemes tokens ≡ before ++ t ∷ rest → (get_or tokens (length before) d).at ≡ t.at
place_before [] [] t rest d e = absurd cc
place_before [] (b ∷ before) t rest d e = absurd cc
place_before (x ∷ tokens) [] t rest d e = ap (λ l. first_at l) e
  where
    first_at : List Lexeme → At
    first_at [] = t.at
    first_at (y ∷ l) = y.at
place_before (x ∷ tokens) (b ∷ before) t rest d e = let f : lexemes tokens ≡ before ++ t ∷ rest = ap rest_of e in place_before tokens before t rest d f
  where
    rest_of : List Lexeme → List Lexeme
    rest_of [] = []
    rest_of (y ∷ l) = l

lexemes_length : (tokens : List Token) → length (lexemes tokens) ≡ length tokens
lexemes_length [] = refl
lexemes_length (x ∷ tokens) = ap suc (lexemes_length tokens)

pub fault_place : (tokens : List Token) (j : ℕ) (P : Lexeme → Type 0) (f : Fault_at (lexemes tokens) j P) (d : Token) → (get_or tokens (length tokens - j) d).at ≡ f.token.at
fault_place tokens j P f d = let n : length tokens - j ≡ length f.before = omega (arith, f.left, lexemes_length tokens, ap length f.split, length-append f.before (f.token ∷ f.rest)) in ap (λ k. (get_or tokens k d).at) n ∙ place_before tokens f.before f.token f.rest d f.split

pub fault_within : (tokens : List Token) (j : ℕ) (P : Lexeme → Type 0) → Fault_at (lexemes tokens) j P → j ≤ length tokens
fault_within tokens j P f = omega (arith, f.left, lexemes_length tokens, ap length f.split, length-append f.before (f.token ∷ f.rest))

pub fault_some : (us : List Lexeme) (j : ℕ) (P : Lexeme → Type 0) → Fault_at us j P → 0 < j
fault_some us j P f = omega (arith, f.left)

a_token : Token
a_token = record { kind = End; at = record { line = 1; column = 1 } }

pub refused_wrong : (d : ℕ) (tokens : List Token) (j : ℕ) (reason : Reason) → Ended (lexemes tokens) → reading d (lexemes tokens) ≡ Err (Wrong j) → ((x : Token) → reason ≡ reason_of 5 (get_or tokens (length tokens - j) x).at) → Breaks (lexemes tokens) reason
refused_wrong d tokens j reason en e h = let f = wrong_at d (lexemes tokens) j en e in no_program f.token.at f.what (h a_token ∙ ap (reason_of 5) (fault_place tokens j _ f a_token))

pub refused_deep : (d : ℕ) (tokens : List Token) (j : ℕ) (reason : Reason) → reading d (lexemes tokens) ≡ Err (Deep j) → ((x : Token) → reason ≡ reason_of 6 (get_or tokens (length tokens - j) x).at) → Breaks (lexemes tokens) reason
refused_deep d tokens j reason e h = let f = deep_at d (lexemes tokens) j e in too_deep f.token.at f.what (h a_token ∙ ap (reason_of 6) (fault_place tokens j _ f a_token))

-- ---- the same of the vector that the tokens stand in

pub ok_found : (d : ℕ) (s v : List Token) (a : Syntax) → s ≡ v → Ended (lexemes v) → value_of (reading d (lexemes s)) ≡ Ok a → Spelled (lexemes v) a
ok_found d s v a e en h = subst (λ l. Spelled (lexemes l) a) e (found_value d (lexemes s) a (subst (λ l. Ended (lexemes l)) (sym e) en) h)

pub ok_only : (d : ℕ) (s v : List Token) (a : Syntax) → s ≡ v → value_of (reading d (lexemes s)) ≡ Ok a → (p : Syntax) → Spelled (lexemes v) p → a ≡ p
ok_only d s v a e h p sp = only_value d (lexemes s) a p (subst (λ l. Spelled (lexemes l) p) (sym e) sp) h

pub is_wrong : (r : Read Syntax) (f : Fault) (j : ℕ) → f ≡ fault.Wrong j → Fails r f → r ≡ Err (Wrong j)
is_wrong r f j e h = let k : Fails r (fault.Wrong j) = subst (λ x. Fails r x) e h in k

pub is_deep : (r : Read Syntax) (f : Fault) (j : ℕ) → f ≡ fault.Deep j → Fails r f → r ≡ Err (Deep j)
is_deep r f j e h = let k : Fails r (fault.Deep j) = subst (λ x. Fails r x) e h in k

pub wrong_only : (d : ℕ) (s v : List Token) (j : ℕ) → s ≡ v → reading d (lexemes s) ≡ Err (Wrong j) → (p : Syntax) → Spelled (lexemes v) p → ⊥
wrong_only d s v j e h p sp = let k : Reads_so p (Err (Wrong j)) = only d (lexemes s) p (subst (λ l. Spelled (lexemes l) p) (sym e) sp) (Err (Wrong j)) h in k

pub deep_only : (d : ℕ) (s v : List Token) (j : ℕ) → s ≡ v → reading d (lexemes s) ≡ Err (Deep j) → (p : Syntax) → Spelled (lexemes v) p → ⊥
deep_only d s v j e h p sp = let k : Reads_so p (Err (Deep j)) = only d (lexemes s) p (subst (λ l. Spelled (lexemes l) p) (sym e) sp) (Err (Deep j)) h in k

pub wrong_refused : (d : ℕ) (s v : List Token) (j : ℕ) (reason : Reason) → s ≡ v → Ended (lexemes v) → reading d (lexemes s) ≡ Err (Wrong j) → ((x : Token) → reason ≡ reason_of 5 (get_or s (length s - j) x).at) → Breaks (lexemes v) reason
wrong_refused d s v j reason e en h k = subst (λ l. Breaks (lexemes l) reason) e (refused_wrong d s j reason (subst (λ l. Ended (lexemes l)) (sym e) en) h k)

pub deep_refused : (d : ℕ) (s v : List Token) (j : ℕ) (reason : Reason) → s ≡ v → reading d (lexemes s) ≡ Err (Deep j) → ((x : Token) → reason ≡ reason_of 6 (get_or s (length s - j) x).at) → Breaks (lexemes v) reason
deep_refused d s v j reason e h k = subst (λ l. Breaks (lexemes l) reason) e (refused_deep d s j reason h k)

pub wrong_some : (d : ℕ) (s v : List Token) (j : ℕ) → s ≡ v → Ended (lexemes v) → reading d (lexemes s) ≡ Err (Wrong j) → 0 < j
wrong_some d s v j e en h = fault_some (lexemes s) j _ (wrong_at d (lexemes s) j (subst (λ l. Ended (lexemes l)) (sym e) en) h)

pub wrong_within : (d : ℕ) (s v : List Token) (j : ℕ) → s ≡ v → Ended (lexemes v) → reading d (lexemes s) ≡ Err (Wrong j) → j ≤ length s
wrong_within d s v j e en h = fault_within s j _ (wrong_at d (lexemes s) j (subst (λ l. Ended (lexemes l)) (sym e) en) h)

pub deep_some : (d : ℕ) (s : List Token) (j : ℕ) → reading d (lexemes s) ≡ Err (Deep j) → 0 < j
deep_some d s j h = fault_some (lexemes s) j _ (deep_at d (lexemes s) j h)

pub deep_within : (d : ℕ) (s : List Token) (j : ℕ) → reading d (lexemes s) ≡ Err (Deep j) → j ≤ length s
deep_within d s j h = fault_within s j _ (deep_at d (lexemes s) j h)
