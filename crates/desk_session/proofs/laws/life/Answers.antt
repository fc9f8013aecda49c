use Rattle.desk_session.proofs.Lives.{IsLife-acknowledged, IsLife-found, IsLife-one_more}
use Rattle.desk_session.proofs.laws.life.Goals as goal

pub returns : goal.returns
returns c = record {
  found = λ book found sessions. IsLife-found sessions book found;
  acknowledged = λ book found sessions lived one front rest life there. IsLife-acknowledged sessions book found lived life there one front rest;
  one_more = λ book found sessions lived. IsLife-one_more sessions book found lived;
}
