-- The assignments of a transfer, where each place can be one.
use Rattle.std.specs.Prelude.{Bool, true, false, if◌then◌else◌, List, [], ◌∷◌, ◌++◌, Option, Some, None}
use Rattle.std.specs.Option.{option_map}
use Rattle.rtl_tree.specs.Moves.{Move}
use Rattle.rtl_spelling.specs.Tokens.{Token}
use Rattle.rtl_spelling.specs.declared.signs.Sign.TheVariants as sign
use Rattle.rtl_spelling.specs.Spelling.{Context, Said}
use Rattle.rtl_spelling.specs.Reading.{Read, ◌>>=◌, gives, head_of, rest_of, is_sign, expect, move}

-- the assignment as a move, if its place can be one
abbrev pub move_of : Said → Option Move
move_of s = option_map (λ g. record { to = g; value = s.value }) s.to

abbrev pub joined : Option (List Move) → Option (List Move) → Option (List Move)
joined None ns = None
joined (Some ms) ns = option_map (λ ns. ms ++ ns) ns

abbrev pub pushed : Option (List Move) → Option Move → Option (List Move)
pushed ms m = joined ms (option_map (λ m. m ∷ []) m)

-- all as moves, if each place can be one
abbrev pub collected : List Said → Option (List Move)
collected [] = Some []
collected (s ∷ ss) = joined (option_map (λ m. m ∷ []) (move_of s)) (collected ss)

-- these moves, and then what is read
abbrev pub collects : Option (List Move) → Read (List Said) → Read (Option (List Move))
collects ms read = read >>= λ ss us. gives (joined ms (collected ss)) us

-- an assignment with the end of the text, or with what stands between two; and whether it was the last
abbrev pub item : Context → List Token → Read (Said × Bool)
item c ts =
    move c 31 ts >>= λ m us.
    (if is_sign sign.End (head_of us) then gives (m, true) (rest_of us)
    else (expect sign.Semicolon us >>= λ _ us. expect sign.Space us >>= λ _ us. gives (m, false) us))
