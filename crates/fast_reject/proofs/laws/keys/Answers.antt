use Rattle.fast_reject.proofs.KeysApart.{different_keys_are_apart, unlike_keys_are_apart}
use Rattle.fast_reject.proofs.laws.keys.Goals as goal

pub returns : goal.returns
returns c = record { apart = different_keys_are_apart; unlike = unlike_keys_are_apart }
