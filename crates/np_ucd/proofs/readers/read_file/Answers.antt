use Rattle.std.proofs.Common.{rules}
use Rattle.np_ucd.proofs.readers.read_file.Goals as goal

pub returns-in-Err-ReadFailed-clause-read : goal.returns-in-Err-ReadFailed-clause-read
returns-in-Err-ReadFailed-clause-read c = search rules

pub returns-in-Err-ReadFailed-clause-failed : goal.returns-in-Err-ReadFailed-clause-failed
returns-in-Err-ReadFailed-clause-failed c = search rules
