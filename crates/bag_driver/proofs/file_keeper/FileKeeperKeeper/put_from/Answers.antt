use Rattle.std.proofs.Common.{inl, refl}
use Rattle.bag_digest.proofs.Progress.{uses_as}
use Rattle.bag_driver.proofs.StoreLemmas.{blamed_put, given_within, is_no_reader}
use Rattle.bag_driver.proofs.file_keeper.FileKeeperKeeper.put_from.Goals as goal

pub returns-in-Err-Keep-Store-clause-put : goal.returns-in-Err-Keep-Store-clause-put
returns-in-Err-Keep-Store-clause-put g c = (
  given_within _ c.args.want.now _ _ c.in-Err-Keep-Store.field-0-is c.in-Err-Keep-Store.ensures.put.0,
  inl (record { was_clean = λ never. absurd never; held = λ never ledger. absurd never; left = λ never crashed. absurd never }),
)

pub returns-in-Err-Keep-Store-clause-reader : goal.returns-in-Err-Keep-Store-clause-reader
returns-in-Err-Keep-Store-clause-reader g c =
    uses_as _ _ _ _ _ _ _ (λ e. absurd (is_no_reader _ _ refl e)) (λ e. absurd (is_no_reader _ _ c.in-Err-Keep-Store.field-0-is e))
    c.in-Err-Keep-Store.ensures.reader

pub returns-in-Err-Keep-Store-clause-store : goal.returns-in-Err-Keep-Store-clause-store
returns-in-Err-Keep-Store-clause-store g c = blamed_put c.args.self.now _ _ _ refl c.blame.ensures.store
