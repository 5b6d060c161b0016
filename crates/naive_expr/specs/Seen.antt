-- Operations and the places of objects, as the code has them.
use Rattle.std.specs.Prelude.{List, map, slice_get, Option, Some, None}
use Rattle.c_tree.specs.declared.typed.Variable.{Variable}
use Rattle.c_tree.specs.declared.typed.Variable.TheVariants as variable
use Rattle.naive_code.specs.Operations as code
use Rattle.naive_code.specs.Storage as place
use Rattle.naive_code.specs.Expressions as naive
use Rattle.naive_expr.specs.declared.operations.Stop.{Stop}
use Rattle.naive_expr.specs.declared.operations.Stop.TheVariants.{Falls, Jumps, Branches, Calls, Returns}
use Rattle.naive_expr.specs.declared.operations.Op.{Op}
use Rattle.naive_expr.specs.declared.operations.Op.TheVariants.{Copy, Constant, Address, Load, Store, LoadByte, StoreByte, Operate, Complement, ReadStack, LoadHome, StoreHome, StoreTop, TakeInput, PutOutput, ReadResult, SetResult, Meet, Scale, Extend, Close}
use Rattle.naive_expr.specs.declared.sites.Base.{Base}
use Rattle.naive_expr.specs.declared.sites.Base.TheVariants.{Symbol, Frame}
use Rattle.naive_expr.specs.declared.sites.Storage.{Storage}
use Rattle.naive_expr.specs.declared.sites.Storage.TheVariants.{Temporary, Word, Elements, Missing}
use Rattle.naive_expr.specs.declared.sites.Site.{Site}

abbrev pub stop_of : Stop → code.Stop
stop_of Falls = code.Falls
stop_of (Jumps l) = code.Jumps l
stop_of (Branches r a b l) = code.Branches r a b l
stop_of (Calls f) = code.Calls f
stop_of Returns = code.Returns

abbrev pub op_of : Op → code.Op
op_of (Copy a b) = code.copy a b
op_of (Constant a n) = code.constant a n
op_of (Address a y) = code.address a y
op_of (Load a b) = code.load a b
op_of (Store a b) = code.store a b
op_of (LoadByte a b) = code.load_byte a b
op_of (StoreByte a b) = code.store_byte a b
op_of (Operate o a b) = code.operate o a b
op_of (Complement a) = code.complement a
op_of (ReadStack a) = code.read_stack a
op_of (LoadHome a k) = code.load_home a k
op_of (StoreHome a k) = code.store_home a k
op_of (StoreTop a) = code.store_top a
op_of TakeInput = code.take_input
op_of PutOutput = code.put_output
op_of (ReadResult a) = code.read_result a
op_of (SetResult a) = code.set_result a
op_of (Meet a b) = code.Meet a b
op_of (Scale a b) = code.Scale a b
op_of (Extend a b) = code.Extend a b
op_of (Close stop l) = code.Close (stop_of stop) l

abbrev pub ops_of : List Op → List code.Op
ops_of = map op_of

abbrev pub base_of : Base → place.Base
base_of (Symbol y) = place.Symbol y
base_of (Frame offset) = place.Frame offset

abbrev pub storage_of : Storage → place.Storage
storage_of (Temporary k) = place.Temporary k
storage_of (Word y) = place.Word y
storage_of (Elements base of) = place.Elements (base_of base) of
storage_of Missing = place.Missing

-- an entry of a table; there is nothing behind its end
abbrev pub entry_of : Option Storage → place.Storage
entry_of None = place.Missing
entry_of (Some s) = storage_of s

abbrev pub places_of : Site → Variable → place.Storage
places_of s (variable.Static x) = entry_of (slice_get s.statics x)
places_of s (variable.Parameter x) = place.Temporary x
places_of s (variable.Local x) = entry_of (slice_get s.locals x)

abbrev pub site_of : Site → naive.Site
site_of s = record { bits = s.bits; storage = places_of s }
