-- The text of a report: a line for each event, and then, node by node, a line for the node and one for each string that it keeps.
use Rattle.std.specs.Prelude.{ℕ, List, [], ◌∷◌, ◌++◌, length, map, flat_map, chars, codes}
use Rattle.std.specs.Fmt.{decimal}
use Rattle.std.specs.List.{enumerate_from, join_with_byte}
use Rattle.np_code_points.specs.Codes.{code_digits, unassigned}
use Rattle.np_node.specs.Strings.{Entry}
use Rattle.np_world.specs.Reports.{NodeReport, ReportData, nodes_of, replies_of}
use Rattle.np_world.specs.declared.replies.Reply.{Reply}
use Rattle.np_world.specs.declared.replies.Reply.TheVariants.{Sent, Kept, Known, Full, TooLong, Unassigned, NoMessage, Version, LastVersion, Saved, Restarted, Forgotten, NotKept, Equal, Different, Malformed, OtherForm, NotUtf8, KeyDiffers, OlderTables}

-- ---- words

abbrev pub reply_text : Reply → List ℕ
reply_text (Sent message) = codes "kept " ++ decimal message
reply_text Kept = codes "kept"
reply_text Known = codes "known"
reply_text Full = codes "full"
reply_text TooLong = codes "too long"
reply_text (Unassigned at code) = unassigned at code
reply_text NoMessage = codes "no message"
reply_text (Version index) = codes "version " ++ decimal index
reply_text LastVersion = codes "last version"
reply_text Saved = codes "saved"
reply_text Restarted = codes "restarted"
reply_text Forgotten = codes "forgotten"
reply_text NotKept = codes "not kept"
reply_text Equal = codes "equal"
reply_text Different = codes "different"
reply_text (Malformed at) = codes "malformed at " ++ decimal at
reply_text OtherForm = codes "other form"
reply_text (NotUtf8 at) = codes "not UTF-8 at byte " ++ decimal at
reply_text KeyDiffers = codes "key differs"
reply_text (OlderTables need have) = codes "older tables " ++ (decimal need ++ (codes " " ++ decimal have))

-- code points in hex digits with a space between; a dash where there are none
abbrev pub codes_text : List ℕ → List ℕ
codes_text [] = codes "-"
codes_text (c ∷ cs) = join_with_byte 32 (map code_digits (c ∷ cs))

-- ---- lines, each with its LF

-- E REPLY
abbrev pub reply_line : ℕ → Reply → List ℕ
reply_line event reply = decimal event ++ (codes " " ++ (reply_text reply ++ codes "\n"))

-- node I version V entries N
abbrev pub node_line : ℕ → NodeReport → List ℕ
node_line number node =
    codes "node " ++ (decimal number ++ (codes " version " ++ (decimal node.index ++ (codes " entries " ++ (decimal (length node.entries) ++ codes "\n")))))

-- entry STRING / KEY
abbrev pub entry_line : Entry → List ℕ
entry_line entry = codes "entry " ++ (codes_text (chars entry.string) ++ (codes " / " ++ (codes_text (chars entry.key) ++ codes "\n")))

abbrev pub node_lines : ℕ → NodeReport → List ℕ
node_lines number node = node_line number node ++ flat_map entry_line node.entries

-- ---- the whole

-- events and nodes have their numbers from 0
abbrev pub report_lines : List Reply → List NodeReport → List ℕ
report_lines replies nodes =
    flat_map (λ p. reply_line p.0 p.1) (enumerate_from 0 replies) ++ flat_map (λ p. node_lines p.0 p.1) (enumerate_from 0 nodes)

abbrev pub text_of_report : {T : Type 0} → ReportData T → List ℕ
text_of_report report = report_lines (replies_of report) (nodes_of report)
