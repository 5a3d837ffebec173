-- The text of what a session of a served store is told.
use Rattle.std.specs.Prelude.{ℕ, ◌==◌, nat_lt, Bool, if◌then◌else◌, List, [], ◌∷◌, ◌++◌, length, Option, Some, None, codes}
use Rattle.std.specs.List.{filter, flat_map}
use Rattle.std.specs.Fmt.{decimal}
use Rattle.reg_tree.specs.Operations.{hive_of}
use Rattle.reg_tree.specs.declared.element.Element.{Element}
use Rattle.reg_tree.specs.declared.op.Op.{Op}
use Rattle.reg_tree.specs.declared.op.Op.TheVariants.{CreateKey, DeleteKey, SetValue, DeleteValue}
use Rattle.reply_lines.specs.Replies.{data_text, name_text, reply_line}
use Rattle.served_replies.specs.declared.reply.ServedReply.{ServedReply}
use Rattle.served_replies.specs.declared.reply.ServedReply.TheVariants.{Line, Saved, Change, Watching, Changed, Followed, NotFound, Stats}
use Rattle.tree_printer.specs.TreeTexts.{path_text}

-- the lines of a script that write a value, the first one up to the value's type; and that delete one
abbrev pub value_text : ℕ → List (List ℕ) → List ℕ → List ℕ
value_text hive path name = codes "set " ++ decimal hive ++ codes ":" ++ path_text path ++ codes " " ++ name_text name ++ codes " "

abbrev pub set_line : ℕ → List (List ℕ) → List ℕ → ℕ → List ℕ → List ℕ
set_line hive path name kind bytes = value_text hive path name ++ decimal kind ++ codes " " ++ data_text bytes ++ codes "\n"

abbrev pub unset_line : ℕ → List (List ℕ) → List ℕ → List ℕ
unset_line hive path name = codes "unset " ++ decimal hive ++ codes ":" ++ path_text path ++ codes " " ++ name_text name ++ codes "\n"

-- the line of a script that makes an operation: a key is named by its hive's number, a colon, and its path
abbrev pub op_line : Op → List ℕ
op_line (CreateKey hive path) = codes "create " ++ decimal hive ++ codes ":" ++ path_text path ++ codes "\n"
op_line (DeleteKey hive path) = codes "delete " ++ decimal hive ++ codes ":" ++ path_text path ++ codes "\n"
op_line (SetValue hive path name kind bytes) = set_line hive path name kind bytes
op_line (DeleteValue hive path name) = unset_line hive path name

-- an operation is on one of the hives that calls name, which are the first `named` ones
abbrev pub is_named : ℕ → Op → Bool
is_named named op = nat_lt (hive_of op) named

abbrev pub line_in : ℕ → Op → List ℕ
line_in named op = if is_named named op then op_line op else []

-- the name of the unit of work that operations commit: that of the value which they write in the hive of outcomes, if they
-- write one
abbrev pub unit_in : ℕ → List Op → Option (List ℕ)
unit_in named [] = None
unit_in named (SetValue hive path name kind bytes ∷ ops) = if hive == named then Some name else unit_in named ops
unit_in named (CreateKey hive path ∷ ops) = unit_in named ops
unit_in named (DeleteKey hive path ∷ ops) = unit_in named ops
unit_in named (DeleteValue hive path name ∷ ops) = unit_in named ops

abbrev pub unit_text : Option (List ℕ) → List ℕ
unit_text None = codes "-"
unit_text (Some name) = name_text name

-- a change: its number and moment, how many lines follow, and the unit of work; and the lines
abbrev pub head_text : ℕ → ℕ → ℕ → List ℕ
head_text number moment lines = codes "change " ++ decimal number ++ codes " " ++ decimal moment ++ codes " " ++ decimal lines ++ codes " "

abbrev pub ops_text : ℕ → ℕ → ℕ → List Op → List ℕ
ops_text named number moment ops =
    head_text number moment (length (filter (is_named named) ops)) ++ unit_text (unit_in named ops) ++ codes "\n" ++ flat_map (line_in named) ops

abbrev pub change_text : ℕ → ℕ → Element → List ℕ
change_text named number change = ops_text named number change.moment change.ops

-- how full a store is: the numbers of the last change and of the last durable one, and the used bytes of the journal's
-- room; and how many clients there are, and wait
abbrev pub store_text : ℕ → ℕ → ℕ → List ℕ
store_text number durable room = (codes "stats number " ++ decimal number) ++ (codes " durable " ++ decimal durable) ++ (codes " room " ++ decimal room)

abbrev pub clients_text : ℕ → ℕ → List ℕ
clients_text clients waiting = (codes " clients " ++ decimal clients) ++ (codes " waiting " ++ decimal waiting ++ codes "\n")

abbrev pub stats_text : ℕ → ℕ → ℕ → ℕ → ℕ → List ℕ
stats_text number durable room clients waiting = store_text number durable room ++ clients_text clients waiting

abbrev pub served_text : ℕ → ServedReply → List ℕ
served_text named (Line reply) = reply_line reply
served_text named (Saved number) = codes "saved " ++ decimal number ++ codes "\n"
served_text named (Change number change) = change_text named number change
served_text named (Watching number) = codes "watching " ++ decimal number ++ codes "\n"
served_text named (Changed number) = codes "changed " ++ decimal number ++ codes "\n"
served_text named (Followed number) = codes "followed " ++ decimal number ++ codes "\n"
served_text named (NotFound after) = codes "E2 NotFound after " ++ decimal after ++ codes "\n"
served_text named (Stats number durable room clients waiting) = stats_text number durable room clients waiting

-- the text of several, one after another
abbrev pub served_texts : ℕ → List ServedReply → List ℕ
served_texts named [] = []
served_texts named (reply ∷ replies) = served_text named reply ++ served_texts named replies
