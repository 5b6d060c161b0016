-- The language of the helpers: words in numbered variables, `+ - & |`, comparisons, and loops of at most w turns.
use Rattle.std.specs.Prelude.{◌≡◌, ℕ, zero, suc, ◌+◌, ◌^◌, ◌<◌, List, [], ◌∷◌, bit_and, bit_or, nat_lt, nat_le, if◌then◌else◌, get_or, length}
use Rattle.rtl_word.specs.Words.{word_add, word_sub}

-- what each machine has
pub data Basic : Type 0 where
  plus minus both either : Basic

-- a variable's number: 0 and 1 are the parameters, then come the locals
pub data Term : Type 0 where
  number : ℕ → Term
  variable : ℕ → Term
  combine : Basic → Term → Term → Term

-- a comparison is of unsigned words
pub data Test : Type 0 where
  is_set : Term → Test
  at_least : Term → Term → Test
  above : Term → Term → Test

infixr 10 ◌then◌
pub data Code : Type 0 where
  put : ℕ → Term → Code
  ◌then◌ : Code → Code → Code
  when : Test → Code → Code
  while : Test → Code → Code

-- a function of two words: its locals by their first values, what it does, and what it returns
pub record Helper : Type 0 where
  pub inits : List ℕ
  pub code : Code
  pub result : Term

-- ---- what it means, on words of w bits

-- what the variables hold
pub record Variables : Type 0 where
  pub a : ℕ
  pub b : ℕ
  pub locals : List ℕ

abbrev pub look : Variables → ℕ → ℕ
look h zero = h.a
look h (suc zero) = h.b
look h (suc (suc k)) = get_or h.locals k 0

abbrev pub replaced : ℕ → ℕ → List ℕ → List ℕ
replaced k v [] = []
replaced zero v (x ∷ xs) = v ∷ xs
replaced (suc k) v (x ∷ xs) = x ∷ replaced k v xs

abbrev pub assign : ℕ → ℕ → Variables → Variables
assign zero v h = record { a = v; b = h.b; locals = h.locals }
assign (suc zero) v h = record { a = h.a; b = v; locals = h.locals }
assign (suc (suc k)) v h = record { a = h.a; b = h.b; locals = replaced k v h.locals }

abbrev pub apply : ℕ → Basic → ℕ → ℕ → ℕ
apply w plus x y = word_add w x y
apply w minus x y = word_sub w x y
apply w both x y = bit_and x y
apply w either x y = bit_or x y

abbrev pub value : ℕ → Variables → Term → ℕ
value w h (number n) = n
value w h (variable x) = look h x
value w h (combine o s t) = apply w o (value w h s) (value w h t)

abbrev pub tested : ℕ → Variables → Test → ℕ
tested w h (is_set t) = value w h t
tested w h (at_least s t) = if nat_le (value w h t) (value w h s) then 1 else 0
tested w h (above s t) = if nat_lt (value w h t) (value w h s) then 1 else 0

abbrev pub unless_zero : {A : Type 0} → ℕ → A → A → A
unless_zero zero x y = y
unless_zero (suc n) x y = x

-- at most k turns, a test before each
abbrev pub repeated : {H : Type 0} → ℕ → (H → ℕ) → (H → H) → H → H
repeated zero t f h = h
repeated (suc k) t f h = unless_zero (t h) (repeated k t f (f h)) h

abbrev pub does : ℕ → Code → Variables → Variables
does w (put x t) h = assign x (value w h t) h
does w (p then q) h = does w q (does w p h)
does w (when t p) h = unless_zero (tested w h t) (does w p h) h
does w (while t p) h = repeated w (λ g. tested w g t) (does w p) h

-- w turns suffice for each loop: its test doesn't hold behind them
abbrev pub Ends : ℕ → Code → Variables → Type 0
Ends w (put x t) h = Unit {0}
Ends w (p then q) h = Ends w p h × Ends w q (does w p h)
Ends w (when t p) h = Ends w p h
Ends w (while t p) h = (tested w (does w (while t p) h) t ≡ 0) × ((g : Variables) → Ends w p g)

abbrev pub started : Helper → ℕ → ℕ → Variables
started h x y = record { a = x; b = y; locals = h.inits }

abbrev pub computes : ℕ → Helper → ℕ → ℕ → ℕ
computes w h x y = value w (does w h.code (started h x y)) h.result

-- ---- numbers are words, and variables are among the first k

abbrev pub Fits : ℕ → ℕ → Term → Type 0
Fits w k (number n) = n < 2 ^ w
Fits w k (variable x) = x < k
Fits w k (combine o s t) = Fits w k s × Fits w k t

abbrev pub FitsTest : ℕ → ℕ → Test → Type 0
FitsTest w k (is_set t) = Fits w k t
FitsTest w k (at_least s t) = Fits w k s × Fits w k t
FitsTest w k (above s t) = Fits w k s × Fits w k t

abbrev pub FitsCode : ℕ → ℕ → Code → Type 0
FitsCode w k (put x t) = (x < k) × Fits w k t
FitsCode w k (p then q) = FitsCode w k p × FitsCode w k q
FitsCode w k (when t p) = FitsTest w k t × FitsCode w k p
FitsCode w k (while t p) = FitsTest w k t × FitsCode w k p

abbrev pub Words : ℕ → List ℕ → Type 0
Words w [] = Unit {0}
Words w (v ∷ vs) = (v < 2 ^ w) × Words w vs

pub record IsHelper (w : ℕ) (h : Helper) : Type 0 where
  pub words : Words w h.inits
  pub code : FitsCode w (2 + length h.inits) h.code
  pub result : Fits w (2 + length h.inits) h.result
