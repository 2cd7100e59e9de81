-- What the words of `npss_caseless` ask for: its version, or a job.
use Rattle.std.specs.Prelude.{ℕ, List, [], Option, Some, None, option_map}
use Rattle.np_habits.specs.FormWords.{plain_of}
use Rattle.np_habits.specs.Notices.{notice_by}
use Rattle.np_habits.specs.declared.notices.Notice.{Notice}
use Rattle.np_habits.specs.declared.notices.Notice.TheVariants as Notices
use Rattle.np_words.specs.CaselessWords.{caseless_asked_by, caseless_asked_of}
use Rattle.np_words.specs.Words.{Asked}
use Rattle.np_words.specs.declared.caseless.CaselessJob.TheVariants as Jobs
use Rattle.np_caseless_job.specs.declared.words.CaselessAsked.{CaselessAsked}
use Rattle.np_caseless_job.specs.declared.words.CaselessAsked.TheVariants.{Version, Job}

-- the job; none where the version is asked for
abbrev pub asked_of : CaselessAsked → Option Asked
asked_of Version = None
asked_of (Job job) = Some (caseless_asked_of job)

-- the files that are opened
abbrev pub files_named : CaselessAsked → List (List ℕ)
files_named Version = []
files_named (Job job) = (caseless_asked_of job).files

-- words in which forms are named in lower case
abbrev pub plain_asked : List (List ℕ) → Option (Option Asked)
plain_asked words = option_map (λ asked. Some asked) (caseless_asked_by words)

-- words that ask for no notice: a form is named in either case
abbrev pub job_asked : List (List ℕ) → Option (Option Asked)
job_asked words = plain_asked (plain_of words)

abbrev pub asked_unless_noticed : Option Notice → List (List ℕ) → Option (Option Asked)
asked_unless_noticed (Some Notices.Help) words = Some (Some (caseless_asked_of Jobs.Help))
asked_unless_noticed (Some Notices.Version) words = Some None
asked_unless_noticed None words = job_asked words

abbrev pub words_asked : List (List ℕ) → Option (Option Asked)
words_asked words = asked_unless_noticed (notice_by words) words
