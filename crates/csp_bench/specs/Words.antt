-- What becomes of the words that the program was given.
use Rattle.std.specs.declared.io.ErrorKind.{ErrorKind}
use Rattle.std.specs.declared.io.ErrorKind.TheVariants.{OutOfMemory}
use Rattle.csp_bench.specs.declared.status.Status.{Status}
use Rattle.csp_bench.specs.declared.status.Status.TheVariants as status

-- the answer where the words could not be told: for want of memory, or because one of them is not UTF-8
abbrev pub status_without_words : ErrorKind → Status
status_without_words OutOfMemory = status.NoMemory
status_without_words _ = status.Words
