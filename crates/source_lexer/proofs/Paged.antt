-- The worked pages, by computation. Assumes nothing.
use Rattle.std.proofs.Common.{refl}
use Rattle.page_bytes.specs.Runs.{run_end}
use Rattle.words.specs.Word.{word_token}
use Rattle.source_lexer.specs.Pages.{PagesRead}
use Rattle.source_lexer.specs.Token.{token_at}

pub pages-read : PagesRead
unfolding run_end word_token token_at PagesRead
pages-read = refl
