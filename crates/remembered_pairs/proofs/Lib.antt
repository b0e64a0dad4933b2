mod Recalling
