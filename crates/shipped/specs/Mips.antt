-- The lines of the description of the MIPS.
use Rattle.std.specs.Prelude.{ℕ, List, [], ◌∷◌, codes}

unfoldable pub mips_lines : List (List ℕ)
mips_lines =
    codes "vpo 1" ∷
    codes "name mips" ∷
    codes "word 32" ∷
    codes "memory 4194304" ∷
    codes "data 4096" ∷
    codes "stack 1048576" ∷
    codes "reg 2 $2 result" ∷
    codes "reg 8 $8 general" ∷
    codes "reg 9 $9 general" ∷
    codes "reg 10 $10 general" ∷
    codes "reg 11 $11 general" ∷
    codes "reg 12 $12 general" ∷
    codes "reg 13 $13 general" ∷
    codes "reg 14 $14 general" ∷
    codes "reg 15 $15 general" ∷
    codes "reg 29 $29 stack" ∷
    codes "reg 31 $31 link" ∷
    codes "class r $2 $8 $9 $10 $11 $12 $13 $14 $15 $29 $31" ∷
    codes "mode rz | <r:r> | <r>" ∷
    codes "mode rz | $0 | 0" ∷
    codes "mode adr | 0(<r:r>) | <r>" ∷
    codes "mode adr | <k:1..32767>(<r:r>) | (<r> + <k>)" ∷
    codes "mode adr | <k:-32768..-1>(<r:r>) | (<r> + <k>)" ∷
    codes "row move <d:r>,<s:r> | <d> = <s>" ∷
    codes "row li <d:r>,<n:word> | <d> = <n>" ∷
    codes "row la <d:r>,<y:sym> | <d> = <y>" ∷
    codes "row lw <d:r>,<a:adr> | <d> = M[<a>]" ∷
    codes "row lb <d:r>,<a:adr> | <d> = (sxb B[<a>])" ∷
    codes "row lbu <d:r>,<a:adr> | <d> = B[<a>]" ∷
    codes "row sw <s:rz>,<a:adr> | M[<a>] = <s>" ∷
    codes "row sb <s:rz>,<a:adr> | B[<a>] = <s>" ∷
    codes "row addu <d:r>,<s:r>,<t:r> | <d> = (<s> + <t>)" ∷
    codes "row addiu <d:r>,<s:r>,<n:-32768..32767> | <d> = (<s> + <n>)" ∷
    codes "row subu <d:r>,<s:r>,<t:r> | <d> = (<s> - <t>)" ∷
    codes "row subu <d:r>,$0,<s:r> | <d> = (neg <s>)" ∷
    codes "row and <d:r>,<s:r>,<t:r> | <d> = (<s> & <t>)" ∷
    codes "row andi <d:r>,<s:r>,<n:0..65535> | <d> = (<s> & <n>)" ∷
    codes "row or <d:r>,<s:r>,<t:r> | <d> = (<s> | <t>)" ∷
    codes "row ori <d:r>,<s:r>,<n:0..65535> | <d> = (<s> | <n>)" ∷
    codes "row xor <d:r>,<s:r>,<t:r> | <d> = (<s> ^ <t>)" ∷
    codes "row xori <d:r>,<s:r>,<n:0..65535> | <d> = (<s> ^ <n>)" ∷
    codes "row nor <d:r>,<s:r>,$0 | <d> = (not <s>)" ∷
    codes "row mul <d:r>,<s:r>,<t:r> | <d> = (<s> * <t>)" ∷
    codes "row div <d:r>,<s:r>,<t:r> | <d> = (<s> div <t>)" ∷
    codes "row divu <d:r>,<s:r>,<t:r> | <d> = (<s> divu <t>)" ∷
    codes "row rem <d:r>,<s:r>,<t:r> | <d> = (<s> rem <t>)" ∷
    codes "row remu <d:r>,<s:r>,<t:r> | <d> = (<s> remu <t>)" ∷
    codes "row sllv <d:r>,<s:r>,<t:r> | <d> = (<s> shl <t>)" ∷
    codes "row srav <d:r>,<s:r>,<t:r> | <d> = (<s> shr <t>)" ∷
    codes "row srlv <d:r>,<s:r>,<t:r> | <d> = (<s> shru <t>)" ∷
    codes "row sll <d:r>,<s:r>,<n:0..31> | <d> = (<s> shl <n>)" ∷
    codes "row sra <d:r>,<s:r>,<n:0..31> | <d> = (<s> shr <n>)" ∷
    codes "row srl <d:r>,<s:r>,<n:0..31> | <d> = (<s> shru <n>)" ∷
    codes "row beq <s:r>,<t:rz>,<l:label> | PC = ((<s> eq <t>) -> <l>)" ∷
    codes "row bne <s:r>,<t:rz>,<l:label> | PC = ((<s> ne <t>) -> <l>)" ∷
    codes "row blt <s:r>,<t:rz>,<l:label> | PC = ((<s> lt <t>) -> <l>)" ∷
    codes "row ble <s:r>,<t:rz>,<l:label> | PC = ((<s> le <t>) -> <l>)" ∷
    codes "row bgt <s:r>,<t:rz>,<l:label> | PC = ((<s> gt <t>) -> <l>)" ∷
    codes "row bge <s:r>,<t:rz>,<l:label> | PC = ((<s> ge <t>) -> <l>)" ∷
    codes "row bltu <s:r>,<t:rz>,<l:label> | PC = ((<s> ltu <t>) -> <l>)" ∷
    codes "row bleu <s:r>,<t:rz>,<l:label> | PC = ((<s> leu <t>) -> <l>)" ∷
    codes "row bgtu <s:r>,<t:rz>,<l:label> | PC = ((<s> gtu <t>) -> <l>)" ∷
    codes "row bgeu <s:r>,<t:rz>,<l:label> | PC = ((<s> geu <t>) -> <l>)" ∷
    codes "row j <l:label> | PC = <l>" ∷
    codes "row jal <f:label> | r[31] = PC; PC = <f>" ∷
    codes "row jr $31 | PC = r[31]" ∷
    codes "row sys getc | r[2] = IN" ∷
    codes "row sys putc | OUT = r[2]" ∷
    codes "row sys exit | HALT = r[2]" ∷
    []
