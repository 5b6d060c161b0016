-- What the program has in hand, without references.
use Rattle.std.specs.Option.{option_map}
use Rattle.rtl_tree.specs.Trees.{tree_of}
use Rattle.rtl_tree.specs.Moves.{goal_of}
use Rattle.rtl_spelling.specs.Spelling.{Said}
pub use Rattle.rtl_print.specs.Seen.{printing_context}
pub use Rattle.rtl_token.specs.Seen.{context_of, reading_context, token_of, tokens_of}
use Rattle.rtl_text.specs.declared.said.Assignment.{Assignment}

abbrev pub said_by : Assignment → Said
said_by a = record { to = option_map goal_of a.to; value = tree_of a.value }
