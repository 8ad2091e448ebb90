-- `telling::put_held` meets its contract: the root's line, and a line for each cell of the chain. Assumes nothing.
use Rattle.text.proofs.Puttings.{short-join}
use Rattle.holder.specs.Answers.{said_of}
use Rattle.telling.specs.Text.{said_text}
use Rattle.telling.proofs.Answering.{answer-rooted, answer-indexes}
use Rattle.telling.proofs.put_held.Goals as goal

pub put_root-chain_at-requires : goal.put_root-chain_at-requires
put_root-chain_at-requires c = answer-rooted c.requires

pub put_chain-requires : goal.put_chain-requires
put_chain-requires c = answer-indexes c.requires

pub returns-clause-puts_short : goal.returns-clause-puts_short
unfolding said_text said_of
returns-clause-puts_short c = short-join c.put_root-chain_at.ensures.puts_short c.put_chain.ensures
