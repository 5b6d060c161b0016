-- What is answered of a text.
use Rattle.std.proofs.Common.{◌≡◌, ℕ, ◌-◌, List, [], ◌∷◌, Option, Some, None, Ok, Err, length, take, refl, sym, ap, subst, ◌∙◌, arith, length-append, ◌+◌}
use Rattle.std.proofs.lemmas.List.{take_at, take-map, length-map}
use Rattle.std.specs.Prelude.{Result, IfOk, IfErr}
use Rattle.rtl_tree.specs.Moves.{Goal, Move}
use Rattle.rtl_tree.specs.WellFormed.{IsWellFormed}
use Rattle.rtl_spelling.specs.Tokens.{Token, Lexes, spelled}
use Rattle.rtl_spelling.specs.Spelling.{Context, IsContext, Said}
use Rattle.rtl_spelling.specs.Contract.{said_of, SpellsText}
use Rattle.rtl_spelling.specs.Law.{Answers, Leaves, FormFaultLeaves, DepthFaultLeaves}
use Rattle.rtl_spelling.specs.Reading.{Trouble, Wrong, Deep, reading}
use Rattle.rtl_spelling.proofs.Lexed.{at_most_one_lexed, at_most_one_spelled, lexed_is_ended, lexed_spelled, stuck_unlexed}
use Rattle.rtl_spelling.proofs.Answered.{reading_answers, spelled_is_read}
use Rattle.rtl_text.specs.Collected.{collected}
use Rattle.rtl_text.specs.Answering.{gathered, Outcome, fault_at}
use Rattle.rtl_token.specs.Refusals.{RefusesTokens}
use Rattle.rtl_token.specs.Gives.{Fails}
use Rattle.rtl_text.specs.Seen.{token_of, tokens_of}
use Rattle.rtl_token.specs.declared.token.Token.{Token as Borrowed}
use Rattle.rtl_token.specs.declared.fault.TextFault.{TextFault}
use Rattle.rtl_token.specs.declared.fault.TextFault.TheVariants as fault
use Rattle.rtl_token.specs.declared.trouble.Trouble.{Trouble as Stop}
use Rattle.rtl_token.specs.declared.trouble.Trouble.TheVariants as stop

-- moves and what is said

some_same : {A : Type 0} (x y : A) → Some x ≡ Some y → x ≡ y
some_same x y e = cc

collected_on : (s : Said) (ss : List Said) (g : Option Goal) (o : Option (List Move)) (ms : List Move) → s.to ≡ g → collected ss ≡ o
    → ((ns : List Move) → o ≡ Some ns → ss ≡ said_of ns) → collected (s ∷ ss) ≡ Some ms → s ∷ ss ≡ said_of ms
collected_on s ss None o ms a b h e = absurd (let z : collected (s ∷ ss) ≡ None = rw a in cc)
collected_on s ss (Some g) None ms a b h e = absurd (let z : collected (s ∷ ss) ≡ None = rw (a, b) in cc)
collected_on s ss (Some g) (Some ns) ms a b h e =
    let m : Move = record { to = g; value = s.value } in
    let is : collected (s ∷ ss) ≡ Some (m ∷ ns) = rw (a, b) in
    let same : m ∷ ns ≡ ms = some_same (m ∷ ns) ms (sym is ∙ e) in
    let first : s ≡ record { to = Some g; value = s.value } = λ i. record { to = a i; value = s.value } in
    ap (λ x. x ∷ ss) first ∙ ap (λ xs. record { to = Some g; value = s.value } ∷ xs) (h ns refl) ∙ ap said_of same

-- where all places can be one, what is said is the moves
collected_is : (ss : List Said) (ms : List Move) → collected ss ≡ Some ms → ss ≡ said_of ms
collected_is [] ms e = ap said_of (some_same [] ms e)
collected_is (s ∷ ss) ms e = collected_on s ss s.to (collected ss) ms refl refl (λ ns f. collected_is ss ns f) e

collected_all : (ms : List Move) → collected (said_of ms) ≡ Some ms
collected_all [] = refl
collected_all (m ∷ ms) = let rest : collected (said_of ms) ≡ Some ms = collected_all ms in rw rest

same_moves : (ms ns : List Move) → said_of ms ≡ said_of ns → ms ≡ ns
same_moves ms ns e = some_same ms ns (sym (collected_all ms) ∙ ap collected e ∙ collected_all ns)

-- the reading by what was gathered

pub record Read (c : Context) (ts : List Token) (o : Option (List Move)) : Type 0 where
  pub said : List Said
  pub is : reading c ts ≡ Ok said
  pub moves : collected said ≡ o

read_on : (c : Context) (ts : List Token) (r : Result (List Said) Trouble) (o : Option (List Move)) → reading c ts ≡ r → gathered r ≡ Ok o → Read c ts o
read_on c ts (Ok ss) o e h = record { said = ss; is = e; moves = (let same : collected ss ≡ o = cc in same) }
read_on c ts (Err t) o e h = cc

read_of : (c : Context) (ts : List Token) (o : Option (List Move)) → gathered (reading c ts) ≡ Ok o → Read c ts o
read_of c ts o h = read_on c ts (reading c ts) o refl h

failed_on : (c : Context) (ts : List Token) (r : Result (List Said) Trouble) (t : Trouble) → reading c ts ≡ r → gathered r ≡ Err t → reading c ts ≡ Err t
failed_on c ts (Ok ss) t e h = cc
failed_on c ts (Err u) t e h = e ∙ (let same : Err u ≡ Err t = cc in same)

failed_of : (c : Context) (ts : List Token) (t : Trouble) → gathered (reading c ts) ≡ Err t → reading c ts ≡ Err t
failed_of c ts t h = failed_on c ts (reading c ts) t refl h

answered : (c : Context) (text : List ℕ) (ts : List Token) (r : Result (List Said) Trouble) → IsContext c → Lexes text ts → reading c ts ≡ r → Answers c ts r
answered c text ts r k l e = subst (Answers c ts) e (reading_answers c k ts (lexed_is_ended text ts l))

-- the text spells what was read
says : (c : Context) (text : List ℕ) (ts : List Token) (ss : List Said) → IsContext c → Lexes text ts → reading c ts ≡ Ok ss → SpellsText c text ss
says c text ts ss k l e = record { tokens = ts; lexes = l; spelled_by = answered c text ts (Ok ss) k l e }

-- what a text spells is read
is_read : (c : Context) (text : List ℕ) (ts : List Token) (ss : List Said) → IsContext c → Lexes text ts → SpellsText c text ss → reading c ts ≡ Ok ss
is_read c text ts ss k l s =
    ap (reading c) (at_most_one_lexed text ts s.tokens l s.lexes) ∙ spelled_is_read c k ss s.tokens s.spelled_by

-- the assignments are no well-formed transfer
ill : (c : Context) (text : List ℕ) (ss : List Said) → IsContext c → SpellsText c text ss → ((ms : List Move) → ss ≡ said_of ms → IsWellFormed ms → ⊥)
    → Outcome c text (Err fault.IllFormed)
ill c text ss k s never = record {
  found = tt;
  refused = record { said = ss; spells = s; never = never };
  only = λ us u ms e w. never ms (at_most_one_spelled c text ss us k s u ∙ e) w;
}

well : (c : Context) (text : List ℕ) (ms : List Move) → IsContext c → SpellsText c text (said_of ms) → IsWellFormed ms → Outcome c text (Ok ms)
well c text ms k s w = record {
  found = record { spells = s; well_formed = w };
  refused = tt;
  only = λ us u. at_most_one_spelled c text us (said_of ms) k u s;
}

made : (c : Context) (text : List ℕ) (ms : List Move) (r : Result (List Move) TextFault) → IsContext c → SpellsText c text (said_of ms)
    → IfOk r (λ e. (e ≡ ms) × IsWellFormed e) → IfErr r (λ f. (f ≡ fault.IllFormed) × (IsWellFormed ms → ⊥)) → Outcome c text r
made c text ms (Ok e) k s h g =
    let P : List Move → Type 0 = λ ns. SpellsText c text (said_of ns) in
    well c text e k (subst P (sym h.0) s) h.1
made c text ms (Err f) k s h g =
    let P : TextFault → Type 0 = λ f. Outcome c text (Err f) in
    subst P (sym g.0) (ill c text (said_of ms) k s (λ ns e w. g.1 (subst IsWellFormed (sym (same_moves ms ns e)) w)))

-- all places can be one
pub all_placed : (c : Context) (text : List ℕ) (ts : List Token) (ms : List Move) (r : Result (List Move) TextFault) → IsContext c → Lexes text ts → gathered (reading c ts) ≡ Ok (Some ms)
    → IfOk r (λ e. (e ≡ ms) × IsWellFormed e) → IfErr r (λ f. (f ≡ fault.IllFormed) × (IsWellFormed ms → ⊥)) → Outcome c text r
all_placed c text ts ms r k l e h g =
    let read : Read c ts (Some ms) = read_of c ts (Some ms) e in
    made c text ms r k (says c text ts (said_of ms) k l (read.is ∙ ap Ok (collected_is read.said ms read.moves))) h g

-- a place can't be one
pub some_misplaced : (c : Context) (text : List ℕ) (ts : List Token) → IsContext c → Lexes text ts → gathered (reading c ts) ≡ Ok None → Outcome c text (Err fault.IllFormed)
some_misplaced c text ts k l e =
    let read : Read c ts None = read_of c ts None e in
    ill c text read.said k (says c text ts read.said k l read.is)
    (λ ms f w. (let same : Some ms ≡ None = sym (collected_all ms) ∙ ap collected (sym f) ∙ read.moves in cc))

-- faults

before_is : (ts before : List Token) (n : ℕ) → Leaves ts before n → take (length ts - n) ts ≡ before
before_is ts before n v =
    let size : length ts ≡ length before + length v.rest = ap length v.split ∙ length-append before v.rest in
    ap (take (length ts - n)) v.split ∙ take_at before v.rest (length ts - n) (omega (arith, v.left))

unread : (c : Context) (text : List ℕ) (ts : List Token) (t : Trouble) (ss : List Said) → IsContext c → Lexes text ts → reading c ts ≡ Err t → SpellsText c text ss → ⊥
unread c text ts t ss k l e s = let f : reading c ts ≡ Ok ss = is_read c text ts ss k l s in cc

pub refused : (c : Context) (text : List ℕ) (ts : List Token) (e : Stop) (f : TextFault) → IsContext c → Lexes text ts → Fails e (gathered (reading c ts)) → f ≡ fault_at ts e → Outcome c text (Err f)
refused c text ts e f k l h is = let P : TextFault → Type 0 = λ f. Outcome c text (Err f) in subst P (sym is) (by_stop e h)
  where
    by_stop : (e : Stop) → Fails e (gathered (reading c ts)) → Outcome c text (Err (fault_at ts e))
    by_stop stop.NoMemory h = record { found = tt; refused = tt; only = λ ss s. tt }
    by_stop (stop.Wrong n) h =
        let read : reading c ts ≡ Err (Wrong n) = failed_of c ts (Wrong n) h in
        let a : FormFaultLeaves c ts n = answered c text ts (Err (Wrong n)) k l read in
        record {
          found = tt;
          refused = record { tokens = ts; before = a.before; lexes = l; fault = a.fault; place = ap (λ b. length (spelled b)) (sym (before_is ts a.before n a.leaves)) };
          only = λ ss s. unread c text ts (Wrong n) ss k l read s;
        }
    by_stop (stop.Deep n) h =
        let read : reading c ts ≡ Err (Deep n) = failed_of c ts (Deep n) h in
        let a : DepthFaultLeaves c ts n = answered c text ts (Err (Deep n)) k l read in
        record {
          found = tt;
          refused = record { tokens = ts; before = a.before; lexes = l; fault = a.fault; place = ap (λ b. length (spelled b)) (sym (before_is ts a.before n a.leaves)) };
          only = λ ss s. unread c text ts (Deep n) ss k l read s;
        }

-- a text that can't be cut into tokens
pub not_lexed : (c : Context) (text : List ℕ) (f : TextFault) → RefusesTokens text f → Outcome c text (Err f)
not_lexed c text fault.NoMemory h = record { found = tt; refused = tt; only = λ ss s. tt }
not_lexed c text (fault.BadToken p) h = record { found = tt; refused = h; only = λ ss s. stuck_unlexed text text p s.tokens h s.lexes refl }
not_lexed c text (fault.BadForm p) h = absurd h
not_lexed c text (fault.TooDeep p) h = absurd h
not_lexed c text fault.IllFormed h = absurd h

-- what the calls need

pub taken_tokens : (ts : List Borrowed) (n : ℕ) → tokens_of (take (length ts - n) ts) ≡ take (length (tokens_of ts) - n) (tokens_of ts)
taken_tokens ts n = sym (take-map token_of (length ts - n) ts) ∙ ap (λ k. take (k - n) (tokens_of ts)) (sym (length-map ts token_of))

pub bytes_are : (text : List ℕ) (ts : List Token) → Lexes text ts → length (spelled ts) ≡ length text
bytes_are text ts l = ap length (sym (lexed_spelled text ts l))
