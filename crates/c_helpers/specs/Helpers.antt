-- The helpers, for words of w bits; above each loop stands its text in C.
use Rattle.std.specs.Prelude.{ℕ, ◌-◌, ◌^◌, [], ◌∷◌}
use Rattle.c_helpers.specs.Code.{plus, minus, both, either, number, variable, combine, is_set, at_least, above, Code, put, ◌then◌, when, while, Helper}

-- the top bit, and all bits
abbrev pub top : ℕ → ℕ
top w = 2 ^ (w - 1)

abbrev pub ones : ℕ → ℕ
ones w = 2 ^ w - 1

-- while (n) { if (n & m) { r = r + x; n = n - m; } x = x + x; m = m + m; }
abbrev pub gather : (n m x r : ℕ) → Code
gather n m x r =
    while (is_set (variable n))
    (when (is_set (combine both (variable n) (variable m))) (put r (combine plus (variable r) (variable x)) then put n (combine minus (variable n) (variable m)))
    then put x (combine plus (variable x) (variable x)) then put m (combine plus (variable m) (variable m)))

-- while (m) { r = r + r; if (a & top) r = r + 1; a = a + a; if (r >= b) { r = r - b; a = a + 1; } m = m + m; }
abbrev pub divide : ℕ → (a b r m : ℕ) → Code
divide w a b r m =
    while (is_set (variable m))
    (put r (combine plus (variable r) (variable r))
    then when (is_set (combine both (variable a) (number (top w)))) (put r (combine plus (variable r) (number 1)))
    then put a (combine plus (variable a) (variable a))
    then when (at_least (variable r) (variable b)) (put r (combine minus (variable r) (variable b)) then put a (combine plus (variable a) (number 1)))
    then put m (combine plus (variable m) (variable m)))

-- while (n) { x = x + x; n = n - 1; }
abbrev pub double : (x n : ℕ) → Code
double x n = while (is_set (variable n)) (put x (combine plus (variable x) (variable x)) then put n (combine minus (variable n) (number 1)))

-- r is 2, m is 3
abbrev pub mul : Helper
mul = record { inits = 0 ∷ 1 ∷ []; code = gather 1 3 0 2; result = variable 2 }

-- a divisor above the top bit goes in once at most: if (b > top) { m = 0; r = a; a = 0; if (r >= b) { r = r - b; a = 1; } }
abbrev pub large : ℕ → Code
large w =
    when (above (variable 1) (number (top w)))
    (put 3 (number 0) then put 2 (variable 0) then put 0 (number 0)
    then when (at_least (variable 2) (variable 1)) (put 2 (combine minus (variable 2) (variable 1)) then put 0 (number 1)))

abbrev pub divu : ℕ → Helper
divu w = record { inits = 0 ∷ 1 ∷ []; code = large w then divide w 0 1 2 3; result = variable 0 }

abbrev pub remu : ℕ → Helper
remu w = record { inits = 0 ∷ 1 ∷ []; code = large w then divide w 0 1 2 3; result = variable 2 }

-- the quotient of the magnitudes; s is 4, and set where the signs differ
abbrev pub div : ℕ → Helper
div w = record {
  inits = 0 ∷ 1 ∷ 0 ∷ [];
  code =
      when (is_set (combine both (variable 0) (number (top w)))) (put 0 (combine minus (number 0) (variable 0)) then put 4 (number 1))
      then when (is_set (combine both (variable 1) (number (top w)))) (put 1 (combine minus (number 0) (variable 1)) then put 4 (combine minus (number 1) (variable 4)))
      then divide w 0 1 2 3
      then when (is_set (variable 4)) (put 0 (combine minus (number 0) (variable 0)));
  result = variable 0;
}

-- s is 4, and set where the dividend is below 0
abbrev pub rem : ℕ → Helper
rem w = record {
  inits = 0 ∷ 1 ∷ 0 ∷ [];
  code =
      when (is_set (combine both (variable 0) (number (top w)))) (put 0 (combine minus (number 0) (variable 0)) then put 4 (number 1))
      then when (is_set (combine both (variable 1) (number (top w)))) (put 1 (combine minus (number 0) (variable 1)))
      then divide w 0 1 2 3
      then when (is_set (variable 4)) (put 2 (combine minus (number 0) (variable 2)));
  result = variable 2;
}

abbrev pub shl : Helper
shl = record { inits = []; code = double 0 1; result = variable 0 }

-- m is 2, r is 3, d is 4: m = 2 ^ n; a = a - (a & (m - 1)); r gathers d for each bit of a
abbrev pub shift_right : Code
shift_right =
    double 2 1
    then put 0 (combine minus (variable 0) (combine both (variable 0) (combine minus (variable 2) (number 1))))
    then gather 0 2 4 3

abbrev pub shru : Helper
shru = record { inits = 1 ∷ 0 ∷ 1 ∷ []; code = shift_right; result = variable 3 }

-- of a word below 0 the complement is shifted, and complemented again; s is 5
abbrev pub shr : ℕ → Helper
shr w = record {
  inits = 1 ∷ 0 ∷ 1 ∷ 0 ∷ [];
  code =
      when (is_set (combine both (variable 0) (number (top w)))) (put 5 (number 1) then put 0 (combine minus (number (ones w)) (variable 0)))
      then shift_right
      then when (is_set (variable 5)) (put 3 (combine minus (number (ones w)) (variable 3)));
  result = variable 3;
}

-- (a | b) - (a & b)
abbrev pub xor : Helper
xor = record { inits = []; code = put 0 (combine minus (combine either (variable 0) (variable 1)) (combine both (variable 0) (variable 1))); result = variable 0 }
