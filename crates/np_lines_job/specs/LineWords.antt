-- What the words of `npss_lines` ask for, by `clap`'s reading of them.
use Rattle.std.specs.Prelude.{Bool, true, false, List, [], ◌∷◌, ◌++◌, is_some, option_map, option_and_then, Option, Some, None, codes, if◌then◌else◌}
use Rattle.std.specs.Option.{option_zip}
use Rattle.clap.specs.Words.{Kinds, Row, Text, fault_of, first_of, matches_of}
use Rattle.np_code_points.specs.declared.forms.Form.{Form}
use Rattle.np_habits.specs.FormWords.{plain_of}
use Rattle.np_habits.specs.Notices.{notice_by}
use Rattle.np_habits.specs.declared.notices.Notice.{Notice}
use Rattle.np_habits.specs.declared.notices.Notice.TheVariants.{Help, Version}
use Rattle.np_lines.specs.declared.lines.LineEnd.{LineEnd}
use Rattle.np_lines.specs.declared.lines.LineEnd.TheVariants.{Lf, Nul}
use Rattle.np_words.specs.CaselessWords.{folded_names_of}
use Rattle.np_words.specs.Words.{files_of, form_of, is_given, names_of}
use Rattle.np_lines_job.specs.LineCommands.{lines_app}
use Rattle.np_lines_job.specs.declared.job.LinesRun.{LinesRun}
use Rattle.np_lines_job.specs.declared.words.LinesJob.{LinesJob}
use Rattle.np_lines_job.specs.declared.words.LinesJob.TheVariants as Jobs

-- how the program is used
abbrev pub lines_usage : Text
lines_usage =
    codes "usage: npss_lines [--null] [--strict] [--progress] --form FORM DATA EXCL\n" ++
    codes "       npss_lines [--null] [--strict] [--progress] --form FORM --caseless DATA EXCL FOLD\n"

-- its version
abbrev pub lines_version : Text
lines_version = codes "npss_lines 0.2.0\n"

-- what is told in place of answers; or what is asked of a run, whether progress is shown, whether keys are caseless, and the files
pub record AskedLines : Type 0 where
  pub notice : Option Notice
  pub run : Option LinesRun
  pub shows_progress : Bool
  pub is_caseless : Bool
  pub files : List Text

-- a notice alone
abbrev pub noticed : Notice → AskedLines
noticed notice = record { notice = Some notice; run = None; shows_progress = false; is_caseless = false; files = [] }

-- answers
abbrev pub answered : LinesRun → Bool → Bool → List Text → AskedLines
answered run shows_progress is_caseless files =
    record { notice = None; run = Some run; shows_progress = shows_progress; is_caseless = is_caseless; files = files }

-- what a job does
abbrev pub asked_of : LinesJob → AskedLines
asked_of Jobs.Help = noticed Help
asked_of Jobs.Version = noticed Version
asked_of (Jobs.Answer asked shows_progress files) = answered asked shows_progress false (names_of files)
asked_of (Jobs.AnswerCaselessly asked shows_progress files) = answered asked shows_progress true (folded_names_of files)

-- the words have the flag of this name
abbrev pub has_flag : Text → List Row → Bool
has_flag name rows = is_given (first_of name rows)

-- what ends lines: NUL where the flag is there
abbrev pub end_by : Bool → LineEnd
end_by false = Lf
end_by true = Nul

-- what is asked of a run under this form
abbrev pub run_asked : Form → List Row → LinesRun
run_asked form rows = record { wanted = record { form = form; end = end_by (has_flag (codes "null") rows) }; is_strict = has_flag (codes "strict") rows }

-- answers under this form, over these files
abbrev pub asked_over : Bool → List Text → List Row → Form × List Text → AskedLines
asked_over is_caseless more rows p = answered (run_asked p.0 rows) (has_flag (codes "progress") rows) is_caseless (p.1 ++ more)

-- the form and the two files of a version, where all three are there
abbrev pub form_and_files_of : List Row → Option (Form × List Text)
form_and_files_of rows = option_zip (form_of rows) (files_of (codes "DATA") (codes "EXCL") rows)

-- keys take two files
abbrev pub plain_asked_in : List Row → Option AskedLines
plain_asked_in rows = if is_some (first_of (codes "FOLD") rows) then None else option_map (asked_over false [] rows) (form_and_files_of rows)

-- caseless keys take three
abbrev pub caseless_asked_in : List Row → Option AskedLines
caseless_asked_in rows = option_and_then (λ name. option_map (asked_over true (name ∷ []) rows) (form_and_files_of rows)) (first_of (codes "FOLD") rows)

-- what is asked for
abbrev pub asked_in : List Row → Option AskedLines
asked_in rows = if has_flag (codes "caseless") rows then caseless_asked_in rows else plain_asked_in rows

-- what is read in words, where `clap` has no fault to find in them
abbrev pub asked_unless : Kinds → List Row → Option AskedLines
asked_unless [] rows = asked_in rows
asked_unless (_ ∷ _) rows = None

-- what `clap` reads in words
abbrev pub asked_among : List Text → Option AskedLines
asked_among words = asked_unless (fault_of lines_app words) (matches_of lines_app words)

-- the job that words ask for: a form is named in either case
abbrev pub job_asked : List Text → Option AskedLines
job_asked words = asked_among (plain_of words)

-- what is told in place of a job, or the job
abbrev pub asked_unless_noticed : Option Notice → List Text → Option AskedLines
asked_unless_noticed (Some notice) words = Some (noticed notice)
asked_unless_noticed None words = job_asked words

abbrev pub some_asked : List Text → Option AskedLines
some_asked words = asked_unless_noticed (notice_by words) words

-- what words ask for: no words ask for help
abbrev pub asked_by : List Text → Option AskedLines
asked_by [] = Some (noticed Help)
asked_by (w ∷ ws) = some_asked (w ∷ ws)
